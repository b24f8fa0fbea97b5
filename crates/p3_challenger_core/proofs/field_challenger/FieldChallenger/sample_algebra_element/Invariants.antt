use Rattle.std.proofs.Common.{◌-◌, take}
use Rattle.p3_challenger_core.specs.DrawLaws.{Drew}
use Rattle.p3_challenger_core.proofs.field_challenger.FieldChallenger.sample_algebra_element.Given as goal

-- the coefficients so far are drawn
abbrev pub invariant-loop-i : goal.invariant-loop-i
invariant-loop-i g l =
    let m = g.Self.CanSample in
    let n = g.A.BasedVectorSpace.DIMENSION in
    Drew m.sampling n (g.Self.Sponge.state l.initial.self) (take l.i (g.A.BasedVectorSpace.coefficients l.element))
    (n - l.i) (g.Self.Sponge.state l.self)
