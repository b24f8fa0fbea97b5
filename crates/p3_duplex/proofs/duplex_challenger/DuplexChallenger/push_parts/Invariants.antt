use Rattle.std.proofs.Common.{◌≡◌, drop}
use Rattle.p3_challenger_core.specs.Observation.{observed_all}
use Rattle.p3_duplex.specs.DuplexState.{fed}
use Rattle.p3_duplex.proofs.duplex_challenger.DuplexChallenger.push_parts.Given as goal

-- what is left to observe leads to the same end
abbrev pub invariant-loop-i : goal.invariant-loop-i
invariant-loop-i g l =
    let feed = fed g.F.PrimeCharacteristicRing.residues g.P.CryptographicPermutation.permutation g.row.RATE in
    let all = observed_all (λ s part. feed s (g.Part.AsSlice.items part)) in
    all l.self (drop l.i l.parts) ≡ all l.initial.self l.parts
