-- A permutation with the same results on a sponge's queries makes the sponge do the same.
use Rattle.std.proofs.Common.{◌≡◌, [], ◌∷◌, ◌++◌, length, Bool, true, false, ◌==◌, if◌then◌else◌, refl, sym, ap}
use Rattle.std.{proofs.Common.subst, specs.List.All, proofs.lemmas.List.Elements.All-head}
use Rattle.p3_challenger_core.specs.Segments.{Call, observe, observe_empty_array, draw}
use Rattle.p3_sponge.specs.SpongeCalls.{SpongeRule, CellSponge, emptied, appended, one_taken, permutation_input, duplexed}
use Rattle.p3_sponge.specs.SpongeCalls.{last_output, queries_by_value, queries_by_draw, queries_by_end, run_value, run_draw}
use Rattle.p3_sponge.specs.{SpongeCalls.{run_call, run_end}, SpongeStepLaws.permutation_input-snoc}

module _ {C T : Type 0} (rule : SpongeRule C T) (other : C → C) where
  abbrev changed : SpongeRule C T
  changed = record rule { permute = other }

  abbrev pub Agree : C → Type 0
  Agree state = other state ≡ rule.permute state

  -- a conditional step
  same_step : (b : Bool) (s : CellSponge C T)
      → All Agree (if b then permutation_input rule s.cells s.pending ∷ [] else [])
      → (if b then duplexed changed s else s) ≡ (if b then duplexed rule s else s)
  same_step true s h =
      ap (λ cells. emptied cells rule.row_len) (All-head Agree (permutation_input rule s.cells s.pending) [] h)
  same_step false s h = refl

  pub same_value : (s : CellSponge C T) (x : T) → All Agree (queries_by_value rule s x)
      → run_value changed s x ≡ run_value rule s x
  same_value s x h =
      let full = length (s.pending ++ x ∷ []) == rule.block_len in
      let absorbed = subst (λ (state : C). All Agree (if full then state ∷ [] else []))
      (sym (permutation_input-snoc rule s.cells s.pending x)) h in
      ap (λ t. record { answers = []; queries = queries_by_value rule s x; after = t })
      (same_step full (appended s x) absorbed)

  pub same_draw : (s : CellSponge C T) → All Agree (queries_by_draw rule s) → run_draw changed s ≡ run_draw rule s
  same_draw s h =
      ap (λ t. record { answers = last_output rule t ∷ []; queries = queries_by_draw rule s; after = one_taken t })
      (same_step (s.outputs_left == 0) s h)

  pub same_call : (s : CellSponge C T) (call : Call T) → All Agree (run_call rule s call).queries
      → run_call changed s call ≡ run_call rule s call
  same_call s (observe x) h = same_value s x h
  same_call s observe_empty_array h = refl
  same_call s draw h = same_draw s h

  pub same_end : {D : Type 0} (digest : C → D) (s : CellSponge C T) → All Agree (queries_by_end rule s)
      → run_end changed digest s ≡ run_end rule digest s
  same_end digest s h =
      ap (λ cells. record { answers = []; queries = queries_by_end rule s; after = digest cells })
      (All-head Agree (permutation_input rule s.cells s.pending) [] h)
