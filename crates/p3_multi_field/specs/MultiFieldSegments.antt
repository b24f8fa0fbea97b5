-- A multi-field challenger over segments of calls: its draws and its queries to the permutation, as functions of whole
-- segments.
use Rattle.std.specs.Prelude.{ℕ, zero, suc, ◌+◌, ◌-◌, ◌/◌, List, [], ◌∷◌, length, take, drop}
use Rattle.p3_challenger_core.specs.Segments.{stays, run_before, BySegments}
use Rattle.p3_sponge.specs.SpongeSegments.{run_values, opened, run_draws, opened_cells}
use Rattle.p3_multi_field.specs.MultiFieldCalls.{FieldPair, Symbol, scalar, digest, MultiFieldSponge, scalars_rule}
use Rattle.p3_sponge.specs.{Cells.overwritten, SpongeCalls.{SpongeRule, SpongeRun, emptied, run_end}}

-- ---- the symbols of a segment

-- the words of a digest, and the scalars up to the next one
pub record Stretch (F PF : Type 0) : Type 0 where
  pub words : List PF
  pub scalars : List F

-- the scalars up to the first digest, and the digests, each with the scalars after it
pub record Stretches (F PF : Type 0) : Type 0 where
  pub scalars : List F
  pub digests : List (Stretch F PF)

abbrev pub stretches : {F PF : Type 0} → List (Symbol F PF) → Stretches F PF
stretches [] = record { scalars = []; digests = [] }
stretches (scalar x ∷ symbols) = let cut = stretches symbols in record cut { scalars = x ∷ cut.scalars }
stretches (digest words ∷ symbols) =
    let cut = stretches symbols in
    record { scalars = []; digests = record { words = words; scalars = cut.scalars } ∷ cut.digests }

-- the number of blocks of a size that values fill, the last one perhaps in part
abbrev pub block_count : ℕ → ℕ → ℕ
block_count size count = (count + (size - 1)) / size

module _ {F PF : Type 0} (pair : FieldPair F PF) (permute : List PF → List PF) (rate : ℕ) where
  abbrev rule : SpongeRule (List PF) F
  rule = scalars_rule pair permute rate

  -- ---- a digest

  -- the cells after the first n blocks of words, each as long as the rate, except perhaps the last
  unfoldable pub absorbed_words : ℕ → List PF → List PF → List PF
  absorbed_words zero cells words = cells
  absorbed_words (suc n) cells words =
      absorbed_words n (permute (overwritten pair.outer rate cells (take rate words))) (drop rate words)

  -- the queries of those n blocks
  unfoldable pub word_queries : ℕ → List PF → List PF → List (List PF)
  word_queries zero cells words = []
  word_queries (suc n) cells words =
      let block_over = overwritten pair.outer rate cells (take rate words) in
      block_over ∷ word_queries n (permute block_over) (drop rate words)

  -- the effect of words without pending scalars; no words change nothing
  abbrev pub run_words : MultiFieldSponge F PF → List PF → SpongeRun (List PF) F
  run_words start [] = stays start
  run_words start (w ∷ ws) =
      let n = block_count rate (length (w ∷ ws)) in
      record {
        answers = [];
        queries = word_queries n start.cells (w ∷ ws);
        after = emptied (absorbed_words n start.cells (w ∷ ws)) rule.row_len;
      }

  -- the effect of a digest: pending scalars are absorbed, the outputs left are dropped, and its words follow
  abbrev pub run_digest : MultiFieldSponge F PF → List PF → SpongeRun (List PF) F
  run_digest start words =
      let opening = opened rule start.cells start.pending 0 in run_before opening (run_words opening.after words)

  -- ---- symbols

  -- digests, each with the scalars after it
  abbrev pub run_stretches : MultiFieldSponge F PF → List (Stretch F PF) → SpongeRun (List PF) F
  run_stretches start [] = stays start
  run_stretches start (stretch ∷ others) =
      let first = run_digest start stretch.words in
      let next = run_values rule first.after stretch.scalars in
      run_before first (run_before next (run_stretches next.after others))

  abbrev pub run_symbols : MultiFieldSponge F PF → List (Symbol F PF) → SpongeRun (List PF) F
  run_symbols start symbols =
      let cut = stretches symbols in
      let first = run_values rule start cut.scalars in
      run_before first (run_stretches first.after cut.digests)

  -- The cells at the start of the draws after symbols. Everything pending and the symbols are absorbed, including
  -- scalars that do not fill the rate.
  abbrev pub absorbed_cells : MultiFieldSponge F PF → List (Symbol F PF) → List PF
  absorbed_cells start symbols = opened_cells rule (run_symbols start symbols).after

  -- ---- segments

  -- each segment continues where the one before it stopped, and the digest is the rate after one more step
  abbrev pub multi_field_by_segments : BySegments (Symbol F PF) F (List PF) (List PF) (MultiFieldSponge F PF)
  multi_field_by_segments =
      record { values = run_symbols; draws = run_draws rule; ended = λ s. s; digest = run_end rule (take rate) }
