use Rattle.std.proofs.Common.{◌≤◌, ◌+◌, ◌-◌, length}
use Rattle.p3_grinding.specs.Checks.{NoneOf}
use Rattle.p3_hash_challenger.specs.WitnessSearch.{BeginWith, candidate_check}
use Rattle.p3_hash_challenger.proofs.hash_challenger.witness_search.search_batches.Given as goal

abbrev pub decreases-batches : goal.decreases-batches
decreases-batches g l = l.num_candidates - l.first

-- no candidate so far passes, and each message begins with what is pending
abbrev pub invariant-batches : goal.invariant-batches
invariant-batches g l =
    let hasher = g.H.CryptographicHasher in
    (l.first ≤ l.num_candidates)
    × NoneOf (candidate_check hasher.hash g.row.OUT_LEN hasher.filler g.row.S
    (g.K.ByteCandidates.encoded l.candidates) (g.K.ByteCandidates.accepted l.candidates)) l.challenger l.first
    × BeginWith l.pending (length l.pending + g.row.W) l.messages
