use Rattle.std.proofs.Common.{◌-◌, take}
use Rattle.p3_sponge.specs.DrawingLaws.{HasDrawn}
use Rattle.p3_multi_field.{specs.MultiFieldState.{sampled, after_sampled}, proofs.Pairs.pair_over}
use Rattle.p3_multi_field.proofs.multi_field_challenger.values.MultiField32ChallengerCanSample.sample.Given as goal

-- the coefficients so far are drawn
abbrev pub invariant-loop-i : goal.invariant-loop-i
invariant-loop-i g l =
    let pair = pair_over g.F.PrimeCharacteristicRing.residues g.PF.PrimeCharacteristicRing.residues g.PF.FieldBridge in
    let space = g.A.BasedVectorSpace in
    let permute = g.P.CryptographicPermutation.permutation in
    HasDrawn (sampled pair permute g.row.RATE) (after_sampled pair permute g.row.RATE) space.DIMENSION l.initial.self
    (take l.i (space.coefficients l.element)) (space.DIMENSION - l.i) l.self
