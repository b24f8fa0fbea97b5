-- A sponge does over segments what it does call by call.
use Rattle.std.proofs.Common.{◌≡◌, ℕ, zero, suc, ◌<◌, ◌≤◌, ◌+◌, ◌-◌, ◌*◌, ◌/◌, List, [], ◌∷◌, ◌++◌, length, take, drop}
use Rattle.std.proofs.Common.{Bool, true, false, ◌==◌, refl, sym, ap, subst, ◌∙◌, append_assoc, append-nil}
use Rattle.std.proofs.{Common.arith, lemmas.Bool.Decides.nat_tests, Math.Nat.div-eq_of_lt}
use Rattle.std.proofs.lemmas.List.{length-append, take_at, drop_at, drop-drop}
use Rattle.p3_challenger_core.specs.Segments.{Call, observe, observe_empty_array, draw, stays, run_before}
use Rattle.p3_challenger_core.specs.SegmentLaws.{StepsAgree}
use Rattle.p3_sponge.specs.SpongeCalls.{SpongeRule, CellSponge, SpongeRun, emptied, appended, permutation_input}
use Rattle.p3_sponge.specs.SpongeCalls.{permuting, observed, after_sampled, run_value, run_draw}
use Rattle.p3_sponge.specs.SpongeSegments.{absorbed_blocks, block_queries, outputs_after, absorbed, run_values, outputs_of}
use Rattle.p3_sponge.specs.{Outputs.draws_from, OutputsLaws.{further-div, draws-left, draws-next}}
use Rattle.p3_sponge.specs.{SpongeCalls.{run_call, sponge_by_calls}, SpongeSegments.{run_draws, sponge_by_segments}}
use Rattle.p3_sponge.specs.Outputs as outputs

pub not_zero : (m : ℕ) → (suc m == 0) ≡ false
not_zero m = grind (arith, nat_tests)

module _ {C T : Type 0} (rule : SpongeRule C T) where
  -- Bounds of a sponge. Fewer values are pending than a block has, no more outputs are left than cells give, and none
  -- while a value is pending.
  pub record Fits (s : CellSponge C T) : Type 0 where
    pub short : length s.pending < rule.block_len
    pub left : s.outputs_left ≤ rule.row_len
    pub none_left : 0 < length s.pending → s.outputs_left ≡ 0

  -- the input of the permutation while a value is pending
  pub permutation_input-snoc : (cells : C) (pending : List T) (x : T)
      → permutation_input rule cells (pending ++ x ∷ []) ≡ rule.over cells (pending ++ x ∷ [])
  permutation_input-snoc cells [] x = refl
  permutation_input-snoc cells (y ∷ ys) x = refl

  -- the input of the permutation while a block is pending
  pub permutation_input-some : (cells : C) (block : List T) → 0 < length block
      → rule.over cells block ≡ permutation_input rule cells block
  permutation_input-some cells [] some = absurd (omega (arith, some))
  permutation_input-some cells (x ∷ xs) some = refl

  -- a state is queried first
  abbrev queries_first : C → SpongeRun C T → SpongeRun C T
  queries_first state run = record run { queries = state ∷ run.queries }

  -- a value that fills a block: all pending values are absorbed
  pub value-full : (s : CellSponge C T) (x : T) → (length (s.pending ++ x ∷ []) == rule.block_len) ≡ true
      → run_value rule s x ≡ (let state = rule.over s.cells (s.pending ++ x ∷ []) in
      record { answers = []; queries = state ∷ []; after = permuting rule state })
  value-full s x full = let snoc = permutation_input-snoc s.cells s.pending x in rw (full, snoc) refl

  -- a value that does not fill a block is pending
  pub value-short : (s : CellSponge C T) (x : T) → (length (s.pending ++ x ∷ []) == rule.block_len) ≡ false
      → run_value rule s x ≡ stays (appended s x)
  value-short s x short = rw short refl

  module _ (some_block : 0 < rule.block_len) (some_row : 0 < rule.row_len) where
    -- ---- what is absorbed

    -- fewer values than fill a block are pending
    absorbed-short : (cells : C) (values : List T) → length values < rule.block_len
        → absorbed rule cells values
        ≡ stays (record { cells = cells; pending = values; outputs_left = outputs_after rule values })
    unfolding absorbed_blocks block_queries
    absorbed-short cells values short =
        let none : rule.block_len * 0 ≡ 0 = omega arith in
        let blocks : length values / rule.block_len ≡ 0 = div-eq_of_lt short in
        rw (blocks, none) refl

    -- a whole block is absorbed, followed by the rest
    absorbed-block : (cells : C) (block more : List T) → length block ≡ rule.block_len
        → absorbed rule cells (block ++ more)
        ≡ queries_first (rule.over cells block) (absorbed rule (rule.permute (rule.over cells block)) more)
    unfolding absorbed_blocks block_queries
    absorbed-block cells block more whole =
        let n = rule.block_len in
        let all = block ++ more in
        let q = length more / n in
        let long : length all ≡ n + length more = omega (arith, length-append block more, whole) in
        let blocks : length all / n ≡ suc q = ap (λ k. k / n) long ∙ further-div n (length more) some_block in
        let front : take n all ≡ block = take_at block more n whole in
        let rest : drop n all ≡ more = drop_at block more n whole in
        let next : n * suc q ≡ n + n * q = omega arith in
        let pending : drop (n * suc q) all ≡ drop (n * q) more =
        ap (λ k. drop k all) next ∙ sym (drop-drop (n * q) n all) ∙ ap (drop (n * q)) rest in
        ap (λ k. record {
          answers = [];
          queries = block_queries rule k cells all;
          after =
              record {
                cells = absorbed_blocks rule k cells all;
                pending = drop (n * k) all;
                outputs_left = outputs_after rule (drop (n * k) all);
              };
        }) blocks
        ∙ (λ i. record {
          answers = [];
          queries = rule.over cells (front i)
              ∷ block_queries rule q (rule.permute (rule.over cells (front i))) (rest i);
          after =
              record {
                cells = absorbed_blocks rule q (rule.permute (rule.over cells (front i))) (rest i);
                pending = pending i;
                outputs_left = outputs_after rule (pending i);
              };
        })

    outputs_after-snoc : (pending : List T) (x : T) → outputs_after rule (pending ++ x ∷ []) ≡ 0
    outputs_after-snoc [] x = refl
    outputs_after-snoc (y ∷ ys) x = refl

    is_whole : (s : CellSponge C T) (x : T) → (length (s.pending ++ x ∷ []) == rule.block_len) ≡ true
        → length (s.pending ++ x ∷ []) ≡ rule.block_len
    is_whole s x full = grind (arith, nat_tests)

    is_short : (s : CellSponge C T) (x : T) → length s.pending < rule.block_len
        → (length (s.pending ++ x ∷ []) == rule.block_len) ≡ false → length (s.pending ++ x ∷ []) < rule.block_len
    is_short s x fits short =
        let one : length (s.pending ++ x ∷ []) ≡ length s.pending + 1 = length-append s.pending (x ∷ []) in
        grind (arith, nat_tests)

    -- a value followed by more is absorbed as one list
    values-by : (b : Bool) (s : CellSponge C T) (x : T) (ys : List T) → Fits s
        → (length (s.pending ++ x ∷ []) == rule.block_len) ≡ b
        → (let run = run_value rule s x in run_before run (run_values rule run.after ys))
        ≡ absorbed rule s.cells (s.pending ++ x ∷ ys)
    values-by true s x [] fits full =
        let state = rule.over s.cells (s.pending ++ x ∷ []) in
        ap (λ run. run_before run (run_values rule run.after [])) (value-full s x full)
        ∙ ap (queries_first state) (sym (absorbed-short (rule.permute state) [] some_block))
        ∙ sym (absorbed-block s.cells (s.pending ++ x ∷ []) [] (is_whole s x full))
        ∙ ap (absorbed rule s.cells) (append-nil (s.pending ++ x ∷ []))
    values-by true s x (y ∷ ys) fits full =
        ap (λ run. run_before run (run_values rule run.after (y ∷ ys))) (value-full s x full)
        ∙ sym (absorbed-block s.cells (s.pending ++ x ∷ []) (y ∷ ys) (is_whole s x full))
        ∙ ap (absorbed rule s.cells) (append_assoc s.pending (x ∷ []) (y ∷ ys))
    values-by false s x [] fits short =
        ap (λ run. run_before run (run_values rule run.after [])) (value-short s x short)
        ∙ ap (λ k. stays (record { cells = s.cells; pending = s.pending ++ x ∷ []; outputs_left = k }))
        (sym (outputs_after-snoc s.pending x))
        ∙ sym (absorbed-short s.cells (s.pending ++ x ∷ []) (is_short s x fits.short short))
    values-by false s x (y ∷ ys) fits short =
        ap (λ run. run_before run (run_values rule run.after (y ∷ ys))) (value-short s x short)
        ∙ ap (absorbed rule s.cells) (append_assoc s.pending (x ∷ []) (y ∷ ys))

    pub run_values-next : (s : CellSponge C T) → Fits s → (x : T) (ys : List T)
        → run_values rule s (x ∷ ys)
        ≡ (let run = run_value rule s x in run_before run (run_values rule run.after ys))
    run_values-next s fits x ys = sym (values-by (length (s.pending ++ x ∷ []) == rule.block_len) s x ys fits refl)

    -- ---- a sponge fits after each call

    pub emptied-fits : (cells : C) (left : ℕ) → left ≤ rule.row_len → Fits (emptied cells left)
    emptied-fits cells left h =
        record { short = some_block; left = h; none_left = λ more. absurd (omega (arith, more)) }

    observed-fits-by : (b : Bool) (s : CellSponge C T) (x : T) → Fits s
        → (length (s.pending ++ x ∷ []) == rule.block_len) ≡ b → Fits (observed rule s x)
    observed-fits-by true s x fits full =
        subst (λ (run : SpongeRun C T). Fits run.after) (sym (value-full s x full))
        (emptied-fits _ rule.row_len (omega arith))
    observed-fits-by false s x fits short =
        subst (λ (run : SpongeRun C T). Fits run.after) (sym (value-short s x short))
        (record { short = is_short s x fits.short short; left = omega arith; none_left = λ _. refl })

    pub observed-fits : (s : CellSponge C T) (x : T) → Fits s → Fits (observed rule s x)
    observed-fits s x fits = observed-fits-by (length (s.pending ++ x ∷ []) == rule.block_len) s x fits refl

    -- ---- what is drawn

    -- without pending values, draws are those of the cells alone
    draws-emptied : (cells : C) (left k : ℕ)
        → outputs.run_draws (outputs_of rule) emptied cells left k ≡ run_draws rule (emptied cells left) k
    draws-emptied cells left zero = refl
    draws-emptied cells left (suc k) = refl

    -- a draw that finds an output, followed by k draws
    abbrev then_draws : C → ℕ → ℕ → SpongeRun C T
    then_draws cells left k =
        let next = run_draws rule (emptied cells (left - 1)) k in
        record next { answers = rule.output cells (left - 1) ∷ next.answers }

    taken-next : (cells : C) (left k : ℕ) → 0 < left → left ≤ rule.row_len
        → draws_from (outputs_of rule) emptied cells (rule.row_len - left) k ≡ then_draws cells left k
    taken-next cells left k more h =
        draws-left (outputs_of rule) some_row emptied cells left k more h
        ∙ ap (λ (next : SpongeRun C T). record next { answers = rule.output cells (left - 1) ∷ next.answers })
        (draws-emptied cells (left - 1) k)

    -- with outputs left nothing is permuted
    drawn-left : (cells : C) (m : ℕ)
        → run_draw rule (emptied cells (suc m))
        ≡ record { answers = rule.output cells (suc m - 1) ∷ []; queries = []; after = emptied cells (suc m - 1) }
    drawn-left cells m = rw (not_zero m) refl

    -- one draw followed by k draws is k + 1 draws
    next-by : (cells : C) (pending : List T) (left k : ℕ) → left ≤ rule.row_len → (0 < length pending → left ≡ 0)
        → run_draws rule (record { cells = cells; pending = pending; outputs_left = left }) (suc k)
        ≡ (let run = run_draw rule (record { cells = cells; pending = pending; outputs_left = left }) in
        run_before run (run_draws rule run.after k))
    next-by cells [] zero k h none =
        draws-next (outputs_of rule) some_row emptied cells k
        ∙ ap (λ (next : SpongeRun C T). queries_first cells
        (record next { answers = rule.output (rule.permute cells) (rule.row_len - 1) ∷ next.answers }))
        (draws-emptied (rule.permute cells) (rule.row_len - 1) k)
    next-by cells [] (suc m) k h none =
        taken-next cells (suc m) k (omega arith) h
        ∙ sym (ap (λ (run : SpongeRun C T). run_before run (run_draws rule run.after k)) (drawn-left cells m))
    next-by cells (x ∷ xs) zero k h none =
        let state = rule.over cells (x ∷ xs) in
        ap (queries_first state) (taken-next (rule.permute state) rule.row_len k some_row (omega arith))
    next-by cells (x ∷ xs) (suc m) k h none = absurd (omega arith)

    pub run_draws-next : (s : CellSponge C T) → Fits s → (k : ℕ)
        → run_draws rule s (suc k) ≡ (let run = run_draw rule s in run_before run (run_draws rule run.after k))
    run_draws-next s fits k = next-by s.cells s.pending s.outputs_left k fits.left fits.none_left

    sampled-fits-by : (cells : C) (pending : List T) (left : ℕ) → left ≤ rule.row_len
        → (0 < length pending → left ≡ 0)
        → Fits (after_sampled rule (record { cells = cells; pending = pending; outputs_left = left }))
    sampled-fits-by cells pending zero h none = emptied-fits _ (rule.row_len - 1) (omega arith)
    sampled-fits-by cells [] (suc m) h none =
        subst (λ (run : SpongeRun C T). Fits run.after) (sym (drawn-left cells m))
        (emptied-fits cells (suc m - 1) (omega (arith, h)))
    sampled-fits-by cells (x ∷ xs) (suc m) h none = absurd (omega arith)

    pub sampled-fits : (s : CellSponge C T) → Fits s → Fits (after_sampled rule s)
    sampled-fits s fits = sampled-fits-by s.cells s.pending s.outputs_left fits.left fits.none_left

    pub call-fits : (s : CellSponge C T) → Fits s → (call : Call T) → Fits (run_call rule s call).after
    call-fits s fits (observe x) = observed-fits s x fits
    call-fits s fits observe_empty_array = fits
    call-fits s fits draw = sampled-fits s fits

    -- each step of a segment does what one call does
    pub sponge_steps : {D : Type 0} (digest : C → D)
        → StepsAgree Fits (sponge_by_calls rule digest) (sponge_by_segments rule digest)
    sponge_steps digest = record {
      no_values = λ s. refl;
      next_value = run_values-next;
      no_draws = λ s. refl;
      next_draw = run_draws-next;
      empty_array = λ s. refl;
      ended_values = λ s x xs. refl;
      digest = λ s. refl;
      keeps = call-fits;
    }
