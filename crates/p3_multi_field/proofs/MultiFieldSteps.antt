-- A multi-field challenger does over segments what the calls do one by one.
use Rattle.std.proofs.Common.{◌≡◌, ℕ, zero, suc, ◌<◌, ◌≤◌, ◌+◌, ◌-◌, ◌/◌, List, [], ◌∷◌, ◌++◌, length, take, drop}
use Rattle.p3_challenger_core.specs.Segments.{Call, observe, observe_empty_array, draw, Run, run_before}
use Rattle.p3_challenger_core.specs.SegmentLaws.{StepsAgree}
use Rattle.p3_sponge.specs.SpongeCalls.{SpongeRule, SpongeRun, emptied, permuting, run_value}
use Rattle.p3_sponge.specs.SpongeStepLaws.{Fits, run_values-next, run_draws-next, emptied-fits, observed-fits}
use Rattle.p3_sponge.specs.SpongeStepLaws.{sampled-fits}
use Rattle.p3_multi_field.specs.MultiFieldCalls.{FieldPair, Symbol, scalar, digest, MultiFieldSponge, batch_of, row_of}
use Rattle.p3_multi_field.specs.MultiFieldCalls.{scalars_rule, blocks_within, blocks, absorbed_pending, words_absorbed}
use Rattle.p3_multi_field.specs.MultiFieldCalls.{queries_by_pending, queries_by_words, run_call, multi_field_by_calls}
use Rattle.p3_multi_field.specs.MultiFieldSegments.{block_count, absorbed_words, word_queries, run_words, run_digest}
use Rattle.p3_multi_field.specs.MultiFieldSegments.{stretches, run_stretches, run_symbols, multi_field_by_segments}
use Rattle.p3_multi_field.specs.MultiFieldState.{KeepsNumbers}
use Rattle.std.proofs.{Common.{refl, sym, ap, ◌∙◌, append_assoc, inl, inr, min, arith}, lemmas.Bool.cases_lt}
use Rattle.std.proofs.{lemmas.List.{length-drop, length-take}, Math.Nat.div-eq_of_lt}
use Rattle.p3_sponge.specs.{Cells.overwritten, OutputsLaws.further-div, SpongeSegments.{opened, run_values}}

-- what a challenger keeps of its numbers, its sponge keeps
pub kept-fits : {F PF : Type 0} (pair : FieldPair F PF) (permute : List PF → List PF)
    (width rate order greater scalars outputs_left : ℕ) (cells : List PF) (pending : List F)
    → KeepsNumbers width rate order greater pair.absorb pair.squeeze scalars outputs_left
    → Fits (scalars_rule pair permute rate)
    (record { cells = cells; pending = take scalars pending; outputs_left = outputs_left })
kept-fits pair permute width rate order greater scalars outputs_left cells pending keeps =
    let long : length (take scalars pending) ≡ min scalars (length pending) = length-take scalars pending in
    record {
      short = omega (arith, long, keeps.short);
      left = keeps.left;
      none_left = λ more. keeps.none_left (omega (arith, long, more));
    }

-- ---- numbers

-- no values fill no block
no-blocks : (n : ℕ) → 0 < n → block_count n 0 ≡ 0
no-blocks n h = let below : 0 + (n - 1) < n = omega (arith, h) in div-eq_of_lt below

-- some values fill a block, and what is left fills the others
count-next : (n m : ℕ) → 0 < n → 0 < m → block_count n m ≡ suc (block_count n (m - n))
count-next n m h some =
    let turned : m + (n - 1) ≡ n + (m - 1) = omega (arith, h, some) in
    let one : block_count n m ≡ suc ((m - 1) / n) = ap (λ k. k / n) turned ∙ further-div n (m - 1) h in
    elim (cases_lt m n) [
      | inl short ↦
          let none : m - n ≡ 0 = omega (arith, short) in
          let below : m - 1 < n = omega (arith, short) in
          one ∙ ap suc (div-eq_of_lt below ∙ sym (no-blocks n h) ∙ ap (block_count n) (sym none))
      | inr whole ↦
          let same : m - 1 ≡ m - n + (n - 1) = omega (arith, whole, h) in
          one ∙ ap (λ k. suc (k / n)) same
    ]

run_before-assoc : {A M S T R : Type 0} (a : Run A M S) (b : Run A M T) (c : Run A M R)
    → run_before (run_before a b) c ≡ run_before a (run_before b c)
run_before-assoc a b c =
    λ i. record {
      answers = append_assoc a.answers b.answers c.answers i;
      queries = append_assoc a.queries b.queries c.queries i;
      after = c.after;
    }

module _ {F PF : Type 0} (pair : FieldPair F PF) (permute : List PF → List PF) (rate : ℕ) (positive : 0 < rate)
    (some_batch : 0 < batch_of pair rate) (some_row : 0 < row_of pair rate) where
  abbrev rule : SpongeRule (List PF) F
  rule = scalars_rule pair permute rate

  abbrev Steps : Type 0
  Steps = SpongeRun (List PF) F

  -- ---- the words of a digest

  -- the cells after blocks
  abbrev after_blocks : List PF → List (List PF) → List PF
  after_blocks cells [] = cells
  after_blocks cells (block ∷ others) = after_blocks (permute (overwritten pair.outer rate cells block)) others

  permuting-blocks : (cells : List PF) (others : List (List PF))
      → words_absorbed pair permute rate (permuting rule cells) others
      ≡ emptied (after_blocks (permute cells) others) rule.row_len
  permuting-blocks cells [] = refl
  permuting-blocks cells (block ∷ others) = permuting-blocks (overwritten pair.outer rate (permute cells) block) others

  -- what the first n blocks of words do, and what blocks do one after another
  abbrev words_run : ℕ → List PF → List PF → Run F (List PF) (List PF)
  words_run n cells words =
      record {
        answers = [];
        queries = word_queries pair permute rate n cells words;
        after = absorbed_words pair permute rate n cells words;
      }

  abbrev blocks_run : List PF → List (List PF) → Run F (List PF) (List PF)
  blocks_run cells others =
      record {
        answers = [];
        queries = queries_by_words pair permute rate cells others;
        after = after_blocks cells others;
      }

  -- the blocks of words, one after another, are as many as their number says
  words-blocks : (n : ℕ) (cells words : List PF) → length words ≤ n
      → words_run (block_count rate (length words)) cells words ≡ blocks_run cells (blocks_within rate n words)
  unfolding absorbed_words word_queries
  words-blocks zero cells [] enough = ap (λ k. words_run k cells []) (no-blocks rate positive)
  words-blocks zero cells (w ∷ ws) enough = absurd (omega (arith, enough))
  words-blocks (suc n) cells [] enough = ap (λ k. words_run k cells []) (no-blocks rate positive)
  words-blocks (suc n) cells (w ∷ ws) enough =
      let words = w ∷ ws in
      let some : 0 < length words = omega arith in
      let rest = drop rate words in
      let left : length rest ≡ length words - rate = length-drop rate words in
      let fewer : length rest ≤ n = omega (arith, left, enough, positive) in
      let state = overwritten pair.outer rate cells (take rate words) in
      let before : Run F (List PF) (List PF) → Run F (List PF) (List PF) =
      λ run. record run { queries = state ∷ run.queries } in
      ap (λ k. words_run k cells words) (count-next rate (length words) positive some)
      ∙ ap (λ k. before (words_run (block_count rate k) (permute state) rest)) (sym left)
      ∙ ap before (words-blocks n (permute state) rest fewer)

  -- words where nothing is pending
  words-agree : (s : MultiFieldSponge F PF) (words : List PF)
      → run_words pair permute rate s words ≡ record {
        answers = [];
        queries = queries_by_words pair permute rate s.cells (blocks rate words);
        after = words_absorbed pair permute rate s (blocks rate words);
      }
  words-agree s [] = refl
  words-agree s (w ∷ ws) =
      let words = w ∷ ws in
      let first = overwritten pair.outer rate s.cells (take rate words) in
      let others = blocks_within rate (length ws) (drop rate words) in
      ap (λ run. record { answers = []; queries = run.queries; after = emptied run.after rule.row_len })
      (words-blocks (length words) s.cells words (omega arith))
      ∙ ap (λ t. record {
        answers = [];
        queries = queries_by_words pair permute rate s.cells (blocks rate words);
        after = t;
      }) (sym (permuting-blocks first others))

  -- what is pending is absorbed first
  opened-agrees : (cells : List PF) (pending : List F)
      → opened rule cells pending 0 ≡ record {
        answers = [];
        queries = queries_by_pending pair permute rate cells pending;
        after = absorbed_pending pair permute rate cells pending;
      }
  opened-agrees cells [] = refl
  opened-agrees cells (x ∷ xs) = refl

  -- a digest is the same both ways
  digest-agrees : (s : MultiFieldSponge F PF) (words : List PF)
      → run_digest pair permute rate s words ≡ run_call pair permute rate s (observe (digest words))
  digest-agrees s words =
      ap (λ (opening : Steps). run_before opening (run_words pair permute rate opening.after words))
      (opened-agrees s.cells s.pending)
      ∙ ap (λ (run : Steps). record {
        answers = run.answers;
        queries = queries_by_pending pair permute rate s.cells s.pending ++ run.queries;
        after = run.after;
      }) (words-agree (absorbed_pending pair permute rate s.cells s.pending) words)

  -- ---- symbols

  run_symbols-next : (s : MultiFieldSponge F PF) → Fits rule s → (symbol : Symbol F PF) (symbols : List (Symbol F PF))
      → run_symbols pair permute rate s (symbol ∷ symbols)
      ≡ (let run = run_call pair permute rate s (observe symbol) in
      run_before run (run_symbols pair permute rate run.after symbols))
  run_symbols-next s fits (scalar x) symbols =
      let cut = stretches symbols in
      let run = run_value rule s x in
      let next = run_values rule run.after cut.scalars in
      ap (λ (first : Steps). run_before first (run_stretches pair permute rate first.after cut.digests))
      (run_values-next rule some_batch some_row s fits x cut.scalars)
      ∙ run_before-assoc run next (run_stretches pair permute rate next.after cut.digests)
  run_symbols-next s fits (digest words) symbols =
      ap (λ (run : Steps). run_before run (run_symbols pair permute rate run.after symbols)) (digest-agrees s words)

  -- ---- a challenger fits after each call

  absorbed-fits : (cells : List PF) (pending : List F) → Fits rule (absorbed_pending pair permute rate cells pending)
  absorbed-fits cells [] = emptied-fits rule some_batch some_row cells 0 (omega arith)
  absorbed-fits cells (x ∷ xs) = emptied-fits rule some_batch some_row _ rule.row_len (omega arith)

  words-fit : (s : MultiFieldSponge F PF) (others : List (List PF)) → Fits rule s
      → Fits rule (words_absorbed pair permute rate s others)
  words-fit s [] fits = fits
  words-fit s (block ∷ others) fits =
      words-fit (permuting rule (overwritten pair.outer rate s.cells block)) others
      (emptied-fits rule some_batch some_row _ rule.row_len (omega arith))

  call-fits : (s : MultiFieldSponge F PF) → Fits rule s → (call : Call (Symbol F PF))
      → Fits rule (run_call pair permute rate s call).after
  call-fits s fits (observe (scalar x)) = observed-fits rule some_batch some_row s x fits
  call-fits s fits (observe (digest words)) =
      words-fit (absorbed_pending pair permute rate s.cells s.pending) (blocks rate words)
      (absorbed-fits s.cells s.pending)
  call-fits s fits observe_empty_array = fits
  call-fits s fits draw = sampled-fits rule some_batch some_row s fits

  -- each step of a segment does what one call does
  pub multi_field_steps : StepsAgree (Fits rule) (multi_field_by_calls pair permute rate)
      (multi_field_by_segments pair permute rate)
  multi_field_steps = record {
    no_values = λ s. refl;
    next_value = run_symbols-next;
    no_draws = λ s. refl;
    next_draw = run_draws-next rule some_batch some_row;
    empty_array = λ s. refl;
    ended_values = λ s x xs. refl;
    digest = λ s. refl;
    keeps = call-fits;
  }
