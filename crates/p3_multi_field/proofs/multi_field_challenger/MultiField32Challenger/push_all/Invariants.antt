use Rattle.std.proofs.Common.{◌≡◌, ◌<◌, [], length}
use Rattle.p3_multi_field.{specs.MultiFieldState.scalars_observed, proofs.Pairs.pair_over}
use Rattle.p3_multi_field.proofs.multi_field_challenger.MultiField32Challenger.push_all.Given as goal

-- what is left to observe leads to the same end, and nothing is pending before it
abbrev pub invariant-loop-rest : goal.invariant-loop-rest
invariant-loop-rest g l =
    let pair = pair_over g.F.PrimeCharacteristicRing.residues g.PF.PrimeCharacteristicRing.residues g.PF.FieldBridge in
    let all = scalars_observed pair g.P.CryptographicPermutation.permutation g.row.RATE in
    (all l.self l.rest ≡ all l.fn.self l.fn.values)
    × (0 < length l.rest → l.self.sponge.pending ≡ [])

abbrev pub decreases-loop-rest : goal.decreases-loop-rest
decreases-loop-rest g l = length l.rest
