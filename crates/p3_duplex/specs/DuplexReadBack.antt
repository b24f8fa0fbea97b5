-- The states that a duplex challenger permutes determine what it observed, or show a collision of its permutation.
use Rattle.std.specs.Prelude.{◌≡◌, ℕ, ◌+◌, ◌-◌, ◌≤◌, ◌⊎◌, List, length, drop, slice_get, Option}
use Rattle.p3_field_core.specs.Residues.{Residues, plus}
use Rattle.p3_challenger_core.specs.Segments.{Call, run_calls, run_calls_to_digest}
use Rattle.p3_read_back.specs.Queries.{LeaveSamePending}
use Rattle.p3_sponge.specs.Cells.{cell}
use Rattle.p3_duplex.specs.DuplexCalls.{DuplexSponge, duplex_by_calls}
use Rattle.p3_read_back.specs.Queries as queries

module _ {F : Type 0} (r : Residues F) (permute : List F → List F) (rate : ℕ) where
  -- one element is the other plus a count up to the rate
  abbrev pub IsNear : F → F → Type 0
  IsNear x y = (n : ℕ) × (n ≤ rate) × ((plus r x n ≡ y) ⊎ (plus r y n ≡ x))

  -- two different states whose images are equal after the cell that follows the rate; in that cell they differ by
  -- a number from -rate to rate
  pub record Collide (one other : List F) : Type 0 where
    pub different : ¬ (one ≡ other)
    pub past : drop (rate + 1) (permute one) ≡ drop (rate + 1) (permute other)
    pub near : IsNear (cell r (permute one) rate) (cell r (permute other) rate)

  -- calls from one challenger on
  module _ (s : DuplexSponge F) where
    -- lists of calls that permute the same states and leave the same pending values have observed the same values
    abbrev pub ReadsBack : Type 0
    ReadsBack = queries.ReadsBack (run_calls (duplex_by_calls r permute rate) s) (λ t. t.pending)

    -- lists of calls that end in a digest and permute the same states up to it have observed the same values
    abbrev pub ReadsBackToDigest : Type 0
    ReadsBackToDigest = queries.ReadsBackToDigest (run_calls_to_digest (duplex_by_calls r permute rate) s)

    -- the last state that calls permute, if there is one
    abbrev pub last_queries : List (Call F) → Option (List F)
    last_queries calls =
        let states = (run_calls (duplex_by_calls r permute rate) s calls).queries in slice_get states (length states - 1)

    -- two lists of calls permute the same state last, and leave the same pending values
    pub record EndAlike (calls others : List (Call F)) : Type 0 where
      pub last : last_queries calls ≡ last_queries others
      pub pending : LeaveSamePending (run_calls (duplex_by_calls r permute rate) s) (λ t. t.pending) calls others

    -- lists of calls that permute equally many states and end alike have observed the same values, or two permuted
    -- states at one place collide
    abbrev pub ReadsBackOrCollides : Type 0
    ReadsBackOrCollides =
        queries.ReadsBackOrCollides (run_calls (duplex_by_calls r permute rate) s) (λ t. t.pending) EndAlike Collide
