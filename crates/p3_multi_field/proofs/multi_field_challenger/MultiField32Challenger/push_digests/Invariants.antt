use Rattle.std.proofs.Common.{◌≡◌, drop}
use Rattle.p3_challenger_core.specs.Observation.{observed_all}
use Rattle.p3_multi_field.{specs.MultiFieldState.digest_observed, proofs.Pairs.pair_over}
use Rattle.p3_multi_field.proofs.multi_field_challenger.MultiField32Challenger.push_digests.Given as goal

-- what is left to observe leads to the same end
abbrev pub invariant-loop-i : goal.invariant-loop-i
invariant-loop-i g l =
    let pair = pair_over g.F.PrimeCharacteristicRing.residues g.PF.PrimeCharacteristicRing.residues g.PF.FieldBridge in
    let feed = digest_observed pair g.P.CryptographicPermutation.permutation g.row.RATE in
    let all = observed_all (λ s x. feed s (g.D.AsSlice.items x)) in
    all l.self (drop l.i l.digests) ≡ all l.initial.self l.digests
