-- A hash challenger does over segments what the calls do one by one.
use Rattle.std.proofs.Common.{◌≡◌, ℕ, zero, suc, ◌<◌, ◌≤◌, ◌-◌, List, [], ◌∷◌, slice_index_or, if◌then◌else◌, refl}
use Rattle.std.proofs.Common.{sym, ap, ◌∙◌, append_assoc, append-nil, arith}
use Rattle.p3_challenger_core.specs.Segments.{Call, observe, observe_empty_array, draw, stays, run_before}
use Rattle.p3_challenger_core.specs.SegmentLaws.{StepsAgree}
use Rattle.p3_hash_challenger.specs.HashCalls.{HashFunction, HashSponge, HashRun, with_pending, observed, flushed}
use Rattle.p3_hash_challenger.specs.HashCalls.{last_output, one_taken, after_sampled, run_call, hash_by_calls}
use Rattle.p3_hash_challenger.specs.HashSegments.{outputs_of, holding, run_values, run_draws, hash_by_segments}
use Rattle.p3_sponge.specs.{OutputsLaws.{draws-left, draws-next}, SpongeStepLaws.not_zero}

-- a value and then a list are fed as one list
run_values-next : {T : Type 0} (s : HashSponge T) (x : T) (xs : List T)
    → run_values s (x ∷ xs) ≡ run_before (stays (observed s x)) (run_values (observed s x) xs)
run_values-next s x [] = refl
run_values-next s x (y ∷ ys) = ap (λ p. stays (with_pending p)) (sym (append_assoc s.pending (x ∷ []) (y ∷ ys)))

module _ {T : Type 0} (h : HashFunction T) (positive : 0 < h.out_len) where
  -- with outputs left nothing is hashed
  drawn-left : (chain : List T) (m : ℕ) → run_call h (record { pending = chain; outputs_left = suc m }) draw ≡ record {
    answers = slice_index_or chain (suc m - 1) h.filler ∷ [];
    queries = [];
    after = record { pending = chain; outputs_left = suc m - 1 };
  }
  drawn-left chain m =
      let s : HashSponge T = record { pending = chain; outputs_left = suc m } in
      ap (λ b. let t = if b then flushed h s else s in record {
        answers = last_output h t ∷ [];
        queries = if b then chain ∷ [] else [];
        after = one_taken t;
      }) (not_zero m)

  -- a draw and then k draws
  abbrev draw_then : HashSponge T → ℕ → HashRun T
  draw_then s k = let run = run_call h s draw in run_before run (run_draws h run.after k)

  -- are one draw more
  next-by : (chain : List T) (left k : ℕ) → left ≤ h.out_len
      → run_draws h (record { pending = chain; outputs_left = left }) (suc k)
      ≡ draw_then (record { pending = chain; outputs_left = left }) k
  next-by chain zero k fits = draws-next (outputs_of h) positive holding chain k
  next-by chain (suc m) k fits =
      draws-left (outputs_of h) positive holding chain (suc m) k (omega arith) fits
      ∙ sym (ap (λ run. run_before run (run_draws h run.after k)) (drawn-left chain m))

  -- a challenger never has more outputs left than a digest has places
  after_sampled-fits : (chain : List T) (left : ℕ) → left ≤ h.out_len
      → (after_sampled h (record { pending = chain; outputs_left = left })).outputs_left ≤ h.out_len
  after_sampled-fits chain zero fits = omega arith
  after_sampled-fits chain (suc m) fits = omega (arith, ap (λ run. run.after.outputs_left) (drawn-left chain m))

  call-fits : (s : HashSponge T) → s.outputs_left ≤ h.out_len → (call : Call T)
      → (run_call h s call).after.outputs_left ≤ h.out_len
  call-fits s fits (observe x) = omega arith
  call-fits s fits observe_empty_array = omega arith
  call-fits s fits draw = after_sampled-fits s.pending s.outputs_left fits

  -- each step of a segment does what one call does
  pub hash_steps :
      StepsAgree (λ (s : HashSponge T). s.outputs_left ≤ h.out_len) (hash_by_calls h) (hash_by_segments h)
  hash_steps = record {
    no_values = λ s. refl;
    next_value = λ s _ x xs. run_values-next s x xs;
    no_draws = λ s. refl;
    next_draw = λ s fits k. next-by s.pending s.outputs_left k fits;
    empty_array = λ s. ap (λ p. stays (with_pending p)) (append-nil s.pending);
    ended_values = λ s x xs. refl;
    digest = λ s. refl;
    keeps = call-fits;
  }
