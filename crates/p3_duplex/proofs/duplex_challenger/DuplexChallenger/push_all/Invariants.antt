use Rattle.std.proofs.Common.{◌≡◌, ◌<◌, [], length}
use Rattle.p3_duplex.specs.DuplexState.{fed}
use Rattle.p3_duplex.proofs.duplex_challenger.DuplexChallenger.push_all.Given as goal

-- what is left to observe leads to the same end, and nothing is pending before it
abbrev pub invariant-loop-rest : goal.invariant-loop-rest
invariant-loop-rest g l =
    let all = fed g.F.PrimeCharacteristicRing.residues g.P.CryptographicPermutation.permutation g.row.RATE in
    (all l.self l.rest ≡ all l.fn.self l.fn.values)
    × (0 < length l.rest → l.self.sponge.pending ≡ [])

abbrev pub decreases-loop-rest : goal.decreases-loop-rest
decreases-loop-rest g l = length l.rest
