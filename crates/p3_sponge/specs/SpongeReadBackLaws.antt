-- The states that a sponge permutes determine what it observed, if a state and the cells before it determine the
-- block.
use Rattle.std.proofs.Common.{◌<◌, ◌≤◌, Bool, true, false, List, [], ◌∷◌, ◌++◌, length, refl, sym, subst}
use Rattle.std.proofs.Common.{append_assoc, append-nil, arith, length-append, ◌==◌, if◌then◌else◌}
use Rattle.p3_challenger_core.specs.Segments.{Call, observe, observe_empty_array, draw, run_calls, run_calls_to_digest}
use Rattle.p3_read_back.specs.Queries.{observed_values, ReadsBack, ReadsBackToDigest}
use Rattle.p3_read_back.specs.BlockLaws.{TellsBlock, AreRead, reads_back-of_blocks, reads_back_to_digest-of_blocks}
use Rattle.p3_sponge.specs.SpongeCalls.{SpongeRule, CellSponge, SpongeRun, appended, one_taken, permutation_input}
use Rattle.p3_sponge.specs.SpongeCalls.{duplexed, queries_by_value, queries_by_draw, queries_by_end, run_call}
use Rattle.p3_sponge.specs.{SpongeCalls.sponge_by_calls, SpongeStepLaws.{Fits, permutation_input-snoc, call-fits}}

module _ {C T : Type 0} (rule : SpongeRule C T) where
  -- values are read from states and a rest
  abbrev pub AreReadFrom : C → List C → List T → List T → Type 0
  AreReadFrom = AreRead (permutation_input rule) rule.permute rule.block_len

  value-read : (b : Bool) (s : CellSponge C T) (x : T) (values : List T) (states : List C) (rest : List T)
      → length s.pending < rule.block_len
      → let t : CellSponge C T = if b then duplexed rule (appended s x) else appended s x in
      AreReadFrom t.cells states (t.pending ++ values) rest
      → AreReadFrom s.cells ((if b then rule.over s.cells (s.pending ++ x ∷ []) ∷ [] else []) ++ states)
      (s.pending ++ x ∷ values) rest
  value-read true s x values states rest short k =
      let over = permutation_input-snoc rule s.cells s.pending x in (
        s.pending ++ x ∷ [],
        values,
        omega (arith, length-append s.pending (x ∷ []), short),
        sym over,
        sym (append_assoc s.pending (x ∷ []) values),
        subst (λ (state : C). AreReadFrom (rule.permute state) states values rest) over k,
      )
  value-read false s x values states rest short k =
      subst (λ (all : List T). AreReadFrom s.cells states all rest) (append_assoc s.pending (x ∷ []) values) k

  draw-read : (b : Bool) (s : CellSponge C T) (values : List T) (states : List C) (rest : List T)
      → length s.pending < rule.block_len
      → let t : CellSponge C T = one_taken (if b then duplexed rule s else s) in
      AreReadFrom t.cells states (t.pending ++ values) rest
      → AreReadFrom s.cells ((if b then permutation_input rule s.cells s.pending ∷ [] else []) ++ states)
      (s.pending ++ values) rest
  draw-read true s values states rest short k = (s.pending, values, omega (arith, short), refl, refl, k)
  draw-read false s values states rest short k = k

  module _ (some_block : 0 < rule.block_len) (some_row : 0 < rule.row_len) {D : Type 0} (digest : C → D) where
    abbrev run : CellSponge C T → List (Call T) → SpongeRun C T
    run s calls = run_calls (sponge_by_calls rule digest) s calls

    abbrev fits-after : (s : CellSponge C T) → Fits rule s → (call : Call T) → Fits rule (run_call rule s call).after
    fits-after = call-fits rule some_block some_row

    run-fits : (calls : List (Call T)) (s : CellSponge C T) → Fits rule s → Fits rule (run s calls).after
    run-fits [] s fits = fits
    run-fits (call ∷ calls) s fits = run-fits calls (run_call rule s call).after (fits-after s fits call)

    -- the pending values and those that calls observe are read from the states permuted by the calls and after them
    reads-before : (calls : List (Call T)) (s : CellSponge C T) → Fits rule s → (more : List C) (rest : List T)
        → AreReadFrom (run s calls).after.cells more (run s calls).after.pending rest
        → AreReadFrom s.cells ((run s calls).queries ++ more) (s.pending ++ observed_values calls) rest
    reads-before [] s fits more rest k =
        subst (λ (values : List T). AreReadFrom s.cells more values rest) (sym (append-nil s.pending)) k
    reads-before (observe x ∷ calls) s fits more rest k =
        let t = (run_call rule s (observe x)).after in
        let later = (run t calls).queries in
        subst (λ (states : List C). AreReadFrom s.cells states (s.pending ++ x ∷ observed_values calls) rest)
        (sym (append_assoc (queries_by_value rule s x) later more))
        (value-read (length (s.pending ++ x ∷ []) == rule.block_len) s x (observed_values calls) (later ++ more) rest
        fits.short (reads-before calls t (fits-after s fits (observe x)) more rest k))
    reads-before (observe_empty_array ∷ calls) s fits more rest k = reads-before calls s fits more rest k
    reads-before (draw ∷ calls) s fits more rest k =
        let t = (run_call rule s draw).after in
        let later = (run t calls).queries in
        subst (λ (states : List C). AreReadFrom s.cells states (s.pending ++ observed_values calls) rest)
        (sym (append_assoc (queries_by_draw rule s) later more))
        (draw-read (s.outputs_left == 0) s (observed_values calls) (later ++ more) rest fits.short
        (reads-before calls t (fits-after s fits draw) more rest k))

    -- values are read from the states permuted and the values left pending
    pub reads : (calls : List (Call T)) (s : CellSponge C T) → Fits rule s
        → AreReadFrom s.cells (run s calls).queries (s.pending ++ observed_values calls) (run s calls).after.pending
    reads calls s fits =
        let after = (run s calls).after in
        let values = s.pending ++ observed_values calls in
        subst (λ (states : List C). AreReadFrom s.cells states values after.pending)
        (append-nil (run s calls).queries) (reads-before calls s fits [] after.pending refl)

    -- values are read from the states permuted up to a digest
    reads_to_digest : (calls : List (Call T)) (s : CellSponge C T) → Fits rule s
        → AreReadFrom s.cells (run_calls_to_digest (sponge_by_calls rule digest) s calls).queries
        (s.pending ++ observed_values calls) []
    reads_to_digest calls s fits =
        let after = (run s calls).after in
        let short : length after.pending ≤ rule.block_len = omega (arith, (run-fits calls s fits).short) in
        reads-before calls s fits (queries_by_end rule after) []
        (after.pending, [], short, refl, sym (append-nil after.pending), refl)

    module _ (told : TellsBlock (permutation_input rule) rule.permute rule.block_len)
        (s : CellSponge C T) (fits : Fits rule s) where
      pub reads_back : ReadsBack (run s) (λ t. t.pending)
      reads_back =
          reads_back-of_blocks (permutation_input rule) rule.permute rule.block_len told (run s) (λ t. t.pending) s.cells
          s.pending (λ calls. reads calls s fits)

      pub reads_back_to_digest : ReadsBackToDigest (run_calls_to_digest (sponge_by_calls rule digest) s)
      reads_back_to_digest =
          reads_back_to_digest-of_blocks (permutation_input rule) rule.permute rule.block_len told
          (run_calls_to_digest (sponge_by_calls rule digest) s) s.cells s.pending (λ calls. reads_to_digest calls s fits)
