-- The strings that a hash challenger hashes determine what it observed, or show a collision of its hash function.
use Rattle.std.specs.Prelude.{◌≡◌, List}
use Rattle.p3_challenger_core.specs.Segments.{run_calls, run_calls_to_digest}
use Rattle.p3_read_back.specs.Queries.{LeaveSamePending}
use Rattle.p3_hash_challenger.specs.HashCalls.{HashFunction, HashSponge, hash_by_calls}
use Rattle.p3_read_back.specs.Queries as queries

-- two different strings with one digest
pub record Collide {T : Type 0} (h : HashFunction T) (one other : List T) : Type 0 where
  pub different : ¬ (one ≡ other)
  pub same_digest : h.digest one ≡ h.digest other

-- calls from one challenger on
module _ {T : Type 0} (h : HashFunction T) (s : HashSponge T) where
  -- lists of calls that hash the same strings and leave the same pending values have observed the same values
  abbrev pub ReadsBack : Type 0
  ReadsBack = queries.ReadsBack (run_calls (hash_by_calls h) s) (λ t. t.pending)

  -- lists of calls that end in a digest and hash the same strings up to it have observed the same values
  abbrev pub ReadsBackToDigest : Type 0
  ReadsBackToDigest = queries.ReadsBackToDigest (run_calls_to_digest (hash_by_calls h) s)

  -- lists of calls that hash equally many strings and leave the same pending values observed the same values, or
  -- two strings at one place collide
  abbrev pub ReadsBackOrCollides : Type 0
  ReadsBackOrCollides =
      let run = run_calls (hash_by_calls h) s in
      queries.ReadsBackOrCollides run (λ t. t.pending) (LeaveSamePending run (λ t. t.pending)) (Collide h)
