use Rattle.std.proofs.Common.{◌-◌, take}
use Rattle.p3_duplex.specs.DuplexState.{sampled, after_sampled}
use Rattle.p3_sponge.specs.DrawingLaws.{HasDrawn}
use Rattle.p3_duplex.proofs.duplex_challenger.DuplexChallengerCanSample.sample.Given as goal

-- the coefficients so far are drawn
abbrev pub invariant-loop-i : goal.invariant-loop-i
invariant-loop-i g l =
    let space = g.A.BasedVectorSpace in
    let r = g.F.PrimeCharacteristicRing.residues in
    let permute = g.P.CryptographicPermutation.permutation in
    HasDrawn (sampled r permute g.row.RATE) (after_sampled r permute g.row.RATE) space.DIMENSION
    l.initial.self (take l.i (space.coefficients l.element)) (space.DIMENSION - l.i) l.self
