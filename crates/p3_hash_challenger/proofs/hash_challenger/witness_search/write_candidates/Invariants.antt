use Rattle.std.proofs.Common.{ℕ, ◌<◌, ◌≤◌, ◌+◌, ◌*◌, length}
use Rattle.p3_hash_challenger.specs.WitnessSearch.{BeginWith, IsMessageOf}
use Rattle.p3_hash_challenger.proofs.hash_challenger.witness_search.write_candidates.Given as goal

-- the messages so far are those of their candidates, and each begins with what is pending
abbrev pub invariant-candidates : goal.invariant-candidates
invariant-candidates g l =
    (l.count * (length l.pending + g.row.W) ≤ length l.messages)
    × BeginWith l.pending (length l.pending + g.row.W) l.messages
    × ((k : ℕ) → k < l.j
    → IsMessageOf l.pending (g.K.ByteCandidates.encoded l.candidates) g.row.W l.first l.messages k)
