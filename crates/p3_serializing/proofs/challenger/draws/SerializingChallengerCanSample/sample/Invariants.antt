use Rattle.std.proofs.Common.{◌-◌, take}
use Rattle.p3_challenger_core.specs.DrawLaws.{Drew}
use Rattle.p3_serializing.specs.SerializingState.{state_of, element_drawn}
use Rattle.p3_serializing.proofs.challenger.draws.SerializingChallengerCanSample.sample.Given as goal

-- the coefficients so far are drawn
abbrev pub invariant-loop-i : goal.invariant-loop-i
invariant-loop-i g l =
    let d = element_drawn g.Inner.CanSample.sampling g.row.BYTES g.F.PrimeCharacteristicRing.residues in
    let n = g.A.BasedVectorSpace.DIMENSION in
    let state = state_of g.Inner.Sponge.state in
    Drew d n (state l.initial.self) (take l.i (g.A.BasedVectorSpace.coefficients l.element)) (n - l.i) (state l.self)
