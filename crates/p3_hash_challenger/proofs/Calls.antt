-- What methods do is what calls do, and what place a draw has.
use Rattle.std.proofs.Common.{◌≡◌, ◌<◌, ◌≤◌, ℕ, zero, suc, ◌+◌, ◌-◌, List, [], ◌∷◌, ◌++◌, map, replicate, refl, sym}
use Rattle.p3_challenger_core.specs.Segments.{Call, observe, observe_empty_array, draw, Segment, nothing, segments}
use Rattle.p3_challenger_core.specs.SegmentLaws.{cut-only, run_calls-segments}
use Rattle.p3_hash_challenger.specs.HashCalls.{HashFunction, HashSponge, with_pending, hash_by_calls}
use Rattle.p3_hash_challenger.specs.HashSegments.{outputs_of, output_at, run_draws, hash_by_segments}
use Rattle.p3_hash_challenger.specs.HashState.{HashState, fed, observed, array_observed, after_calls, calls_of_array}
use Rattle.p3_hash_challenger.{specs.{HashState.after_sampled, HashStateLaws.fed-append}, proofs.HashSteps.hash_steps}
use Rattle.p3_sponge.specs.Outputs.{outputs_from}
use Rattle.std.{proofs.Common.{ap, ◌∙◌, inl, append-nil, arith}, specs.List.range_with_len}
use Rattle.p3_challenger_core.specs.{Sponge.after_steps, Segments.{run_calls, run_segments}}

module _ {T H : Type 0} (function : H → HashFunction T) where
  pub fed-is_calls : (s : HashState T H) (xs : List T) → fed s xs ≡ after_calls function s (map observe xs)
  fed-is_calls s [] = refl
  fed-is_calls s (x ∷ xs) = sym (fed-append s (x ∷ []) xs) ∙ fed-is_calls (observed s x) xs

  pub array-is_calls : (s : HashState T H) (xs : List T)
      → array_observed s xs ≡ after_calls function s (calls_of_array xs)
  array-is_calls s [] = refl
  array-is_calls s (x ∷ xs) = fed-is_calls s (x ∷ xs)

  pub steps-are_calls : (n : ℕ) (s : HashState T H)
      → after_steps (after_sampled function) n s ≡ after_calls function s (replicate n draw)
  steps-are_calls zero s = refl
  steps-are_calls (suc n) s = steps-are_calls n (after_sampled function s)

module _ {T : Type 0} (h : HashFunction T) where
  -- the outputs from a place on are those at the places from there on
  outputs-places : (chain : List T) (base place n : ℕ)
      → outputs_from (outputs_of h) chain (base + place) n ≡ map (λ k. output_at h chain (base + k)) (range_with_len place n)
  unfolding outputs_from
  outputs-places chain base place zero = refl
  outputs-places chain base place (suc n) =
      let next : suc (base + place) ≡ base + (place + 1) = omega arith in
      ap (λ xs. output_at h chain (base + place) ∷ xs)
      (ap (λ p. outputs_from (outputs_of h) chain p n) next ∙ outputs-places chain base (place + 1) n)

  -- draws that begin anew take the places of the first hash of the chain
  anew-places : (chain : List T) (n : ℕ)
      → (run_draws h (with_pending chain) n).answers ≡ map (λ k. output_at h chain (h.out_len + k)) (range_with_len 0 n)
  anew-places chain zero = refl
  anew-places chain (suc n) =
      let first : h.out_len - 0 ≡ h.out_len + 0 = omega arith in
      ap (λ p. outputs_from (outputs_of h) chain p (suc n)) first ∙ outputs-places chain h.out_len 0 (suc n)

  module _ (positive : 0 < h.out_len) (s : HashSponge T) (left : s.outputs_left ≤ h.out_len) where
    -- answers segment by segment
    answers-cut : (calls : List (Call T)) → (run_calls (hash_by_calls h) s calls).answers
        ≡ (run_segments (hash_by_segments h) s (segments calls)).answers
    answers-cut calls =
        ap (λ run. run.answers)
        (run_calls-segments (λ t. t.outputs_left ≤ h.out_len) (hash_by_calls h) (hash_by_segments h)
        (hash_steps h positive) s left calls)

    pub draws-places : (x : T) (xs : List T) (n : ℕ)
        → (run_calls (hash_by_calls h) s (map observe (x ∷ xs) ++ replicate n draw)).answers
        ≡ map (λ k. output_at h (s.pending ++ x ∷ xs) (h.out_len + k)) (range_with_len 0 n)
    draws-places x xs n =
        let calls = map observe (x ∷ xs) ++ replicate n draw in
        let chain = s.pending ++ x ∷ xs in
        let first : Segment T = record { values = x ∷ xs; draws = n } in
        answers-cut calls
        ∙ sym (ap (λ cut. (run_segments (hash_by_segments h) s cut).answers) (cut-only calls first [] refl))
        ∙ append-nil (run_draws h (with_pending chain) n).answers ∙ anew-places chain n

    pub draws-places_after_array : (n : ℕ)
        → (run_calls (hash_by_calls h) s (observe_empty_array ∷ replicate n draw)).answers
        ≡ map (λ k. output_at h s.pending (h.out_len + k)) (range_with_len 0 n)
    draws-places_after_array n =
        let draws = replicate n draw in
        let calls = observe_empty_array ∷ draws in
        let second : Segment T = record { values = []; draws = n } in
        answers-cut calls
        ∙ sym (ap (λ cut. (run_segments (hash_by_segments h) s cut).answers)
        (cut-only calls nothing (second ∷ []) (draws, inl refl, refl)))
        ∙ append-nil (run_draws h (with_pending s.pending) n).answers ∙ anew-places s.pending n
