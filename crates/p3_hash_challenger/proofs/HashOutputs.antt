-- A draw takes one of the outputs left, which are places of what is pending.
use Rattle.std.proofs.Common.{◌≡◌, ℕ, zero, suc, ◌<◌, ◌≤◌, ◌-◌, List, [], ◌∷◌, length, if◌then◌else◌, Bool}
use Rattle.p3_challenger_core.specs.Segments.{Call, observe, observe_empty_array, draw}
use Rattle.p3_hash_challenger.specs.HashCalls.{HashFunction, HashSponge, flushed, one_taken}
use Rattle.p3_hash_challenger.specs.HashCalls.{sampled, queries_by_draw, after_sampled, run_call}
use Rattle.p3_sponge.specs.SpongeStepLaws.{not_zero}
use Rattle.std.proofs.{Common.{slice_index_or, refl, sym, ap, subst, arith}, lemmas.List.get_or_default}

-- the outputs left are places of what is pending
abbrev pub HasOutputs : {T : Type 0} → HashSponge T → Type 0
HasOutputs s = s.outputs_left ≤ length s.pending

abbrev of : {T : Type 0} → List T → ℕ → HashSponge T
of pending left = record { pending = pending; outputs_left = left }

module _ {T : Type 0} (h : HashFunction T) (other : T) (positive : 0 < h.out_len)
    (whole : (message : List T) → length (h.digest message) ≡ h.out_len) where
  abbrev filled : HashFunction T
  filled = record h { filler = other }

  -- after a flush, or as it was
  abbrev flushed_if : HashSponge T → Bool → HashSponge T
  flushed_if s b = if b then flushed h s else s

  -- a draw does not take what stands for a place that is not there
  same_draw : (pending : List T) (left : ℕ) → left ≤ length pending
      → sampled filled (of pending left) ≡ sampled h (of pending left)
  same_draw pending zero fits =
      let inside : h.out_len - 1 < length (h.digest pending) = omega (arith, whole pending) in
      get_or_default (h.digest pending) (h.out_len - 1) other h.filler inside
  same_draw pending (suc m) fits =
      let taken = λ (d : T) (t : HashSponge T). slice_index_or t.pending (t.outputs_left - 1) d in
      let s = flushed_if (of pending (suc m)) in
      let inside : suc m - 1 < length pending = omega arith in
      subst (λ b. taken other (s b) ≡ taken h.filler (s b)) (sym (not_zero m))
      (get_or_default pending (suc m - 1) other h.filler inside)

  drawn-outputs : (pending : List T) (left : ℕ) → left ≤ length pending → HasOutputs (after_sampled h (of pending left))
  drawn-outputs pending zero fits = omega (arith, whole pending)
  drawn-outputs pending (suc m) fits =
      let inside : suc m - 1 ≤ length pending = omega arith in
      subst (λ b. HasOutputs (one_taken (flushed_if (of pending (suc m)) b))) (sym (not_zero m)) inside

  pub filled_call : (s : HashSponge T) → HasOutputs s → (call : Call T)
      → run_call (record h { filler = other }) s call ≡ run_call h s call
  filled_call s fits (observe x) = refl
  filled_call s fits observe_empty_array = refl
  filled_call s fits draw =
      ap (λ x. record { answers = x ∷ []; queries = queries_by_draw s; after = after_sampled h s })
      (same_draw s.pending s.outputs_left fits)

  pub call_outputs : (s : HashSponge T) → HasOutputs s → (call : Call T) → HasOutputs (run_call h s call).after
  call_outputs s fits (observe x) = omega arith
  call_outputs s fits observe_empty_array = omega arith
  call_outputs s fits draw = drawn-outputs s.pending s.outputs_left fits
