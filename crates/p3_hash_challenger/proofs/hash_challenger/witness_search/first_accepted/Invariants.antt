use Rattle.std.proofs.Common.{ℕ, ◌<◌}
use Rattle.p3_grinding.specs.Checks.{PassesAt}
use Rattle.p3_hash_challenger.specs.WitnessSearch.{digest_check}
use Rattle.p3_hash_challenger.proofs.hash_challenger.witness_search.first_accepted.Given as goal

-- no digest so far is accepted
abbrev pub invariant-loop-j : goal.invariant-loop-j
invariant-loop-j g l =
    (k : ℕ) → k < l.j → ¬ (PassesAt (digest_check g.row.S (g.K.ByteCandidates.accepted l.candidates)) l.digests k)
