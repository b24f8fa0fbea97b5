use Rattle.std.proofs.Common.{◌≡◌, drop}
use Rattle.p3_challenger_core.specs.Observation.{observed_all}
use Rattle.p3_duplex.specs.DuplexState.{fed}
use Rattle.p3_duplex.proofs.duplex_challenger.DuplexChallenger.push_values.Given as goal

-- what is left to observe leads to the same end
abbrev pub invariant-loop-i : goal.invariant-loop-i
invariant-loop-i g l =
    let feed = fed g.F.PrimeCharacteristicRing.residues g.P.CryptographicPermutation.permutation g.row.RATE in
    let parts = observed_all (λ u part. feed u (g.Part.AsSlice.items part)) in
    let all = observed_all (λ s value. parts s (g.V.AsSlice.items value)) in
    all l.self (drop l.i l.values) ≡ all l.initial.self l.values
