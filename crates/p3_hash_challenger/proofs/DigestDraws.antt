-- What is drawn after a candidate: outputs of one digest.
use Rattle.std.proofs.Common.{◌≡◌, ℕ, zero, suc, ◌+◌, ◌-◌, ◌<◌, ◌≤◌, Bool, List, [], ◌∷◌, ◌++◌, Option, Some, length}
use Rattle.std.proofs.Common.{take, drop, reverse, slice_index_or, if◌then◌else◌, refl, sym, ap, ◌∙◌, arith}
use Rattle.p3_challenger_core.specs.Sampling.{Sampling, unrefused_draw, draws}
use Rattle.p3_hash_challenger.specs.HashCalls.{HashFunction, HashSponge, with_pending, flushed, last_output, one_taken}
use Rattle.p3_hash_challenger.specs.HashState.{HashState, fed, function_of, sampled, after_sampled}
use Rattle.p3_hash_challenger.specs.{HashStateLaws.observed_all-fed, WitnessSearch.IsDigestOf}
use Rattle.p3_hash_challenger.specs.WitnessSearch.{first_outputs, candidate_check, digest_check}
use Rattle.p3_sponge.specs.SpongeStepLaws.{not_zero}
use Rattle.std.{proofs.lemmas.List.{get_or-reverse, length-reverse}, proofs.Math.Seq.drop-cons, specs.Option.option_map}

module _ {H : Type 0} (function : H → HashFunction ℕ) (hasher : H) where
  abbrev h : HashFunction ℕ
  h = function hasher

  abbrev of : HashSponge ℕ → HashState ℕ H
  of sponge = record { sponge = sponge; hasher = hasher }

  abbrev left : List ℕ → ℕ → HashState ℕ H
  left digest count = of (record { pending = digest; outputs_left = count })

  abbrev draw : Sampling (HashState ℕ H) ℕ
  draw = unrefused_draw (λ s. Some (sampled function s)) (after_sampled function)

  -- a draw from outputs, and n more
  abbrev drawn_then : HashSponge ℕ → ℕ → Option (List ℕ)
  drawn_then s n = option_map (λ xs. last_output h s ∷ xs) (draws draw n (of (one_taken s)))

  next-drawn : (digest : List ℕ) (m n : ℕ)
      → draws draw (suc n) (left digest (suc m)) ≡ drawn_then (record { pending = digest; outputs_left = suc m }) n
  unfolding draws
  next-drawn digest m n =
      let s : HashSponge ℕ = record { pending = digest; outputs_left = suc m } in
      ap (λ b. drawn_then (if b then flushed h s else s) n) (not_zero m)

  -- outputs that are left are drawn, the last of them first
  left-drawn : (digest : List ℕ) (n count : ℕ) → n ≤ count → count ≤ length digest
      → draws draw n (left digest count) ≡ Some (take n (drop (length digest - count) (reverse digest)))
  unfolding draws
  left-drawn digest zero count more fits = refl
  left-drawn digest (suc n) zero more fits = absurd (omega (arith, more))
  left-drawn digest (suc n) (suc m) more fits =
      let turned = reverse digest in
      let place = length digest - suc m in
      let inside : place < length turned = omega (arith, fits, length-reverse digest) in
      let here : place < length digest = omega (arith, fits) in
      let same : length digest - 1 - place ≡ m = omega (arith, fits) in
      let next : suc place ≡ length digest - m = omega (arith, fits) in
      let output = slice_index_or digest m h.filler in
      let is : slice_index_or turned place h.filler ≡ output =
      get_or-reverse digest place h.filler here ∙ ap (λ i. slice_index_or digest i h.filler) same in
      let split : drop place turned ≡ output ∷ drop (length digest - m) turned =
      drop-cons turned place h.filler inside ∙ (λ i. is i ∷ drop (next i) turned) in
      let less : suc m - 1 ≡ m = omega arith in
      next-drawn digest m n
      ∙ (λ i. option_map (λ xs. slice_index_or digest (less i) h.filler ∷ xs) (draws draw n (left digest (less i))))
      ∙ ap (option_map (λ xs. output ∷ xs)) (left-drawn digest n m (omega (arith, more)) (omega (arith, fits)))
      ∙ ap (λ xs. Some (take (suc n) xs)) (sym split)

  -- after a list that is pending is hashed, the outputs of its digest are drawn
  pending-drawn : (message : List ℕ) (n : ℕ) → n ≤ h.out_len → length (h.digest message) ≡ h.out_len
      → draws draw n (of (with_pending message)) ≡ Some (first_outputs n (h.digest message))
  unfolding draws
  pending-drawn message zero fits whole = refl
  pending-drawn message (suc n) fits whole =
      let digest = h.digest message in
      let all : h.out_len ≡ suc (h.out_len - 1) = omega (arith, fits) in
      let none : length digest - suc (h.out_len - 1) ≡ 0 = omega (arith, whole, fits) in
      ap (λ k. drawn_then (record { pending = digest; outputs_left = k }) n) all
      ∙ sym (next-drawn digest (h.out_len - 1) n)
      ∙ left-drawn digest (suc n) (suc (h.out_len - 1)) (omega (arith, fits)) (omega (arith, whole, fits))
      ∙ ap (λ k. Some (take (suc n) (drop k (reverse digest)))) none

  fed-pending : (s : HashSponge ℕ) (xs : List ℕ) → 0 < length xs → fed (of s) xs ≡ of (with_pending (s.pending ++ xs))
  fed-pending s [] more = absurd (omega (arith, more))
  fed-pending s (x ∷ xs) more = refl

  fed-drawn : (s : HashSponge ℕ) (xs : List ℕ) (n : ℕ) → 0 < length xs → n ≤ h.out_len
      → length (h.digest (s.pending ++ xs)) ≡ h.out_len
      → draws draw n (fed (of s) xs) ≡ Some (first_outputs n (h.digest (s.pending ++ xs)))
  fed-drawn s xs n more fits whole =
      ap (draws draw n) (fed-pending s xs more) ∙ pending-drawn (s.pending ++ xs) n fits whole

-- a candidate of one byte or more passes by the digest of what is pending and its bytes
pub candidate-answer : {H : Type 0} (hash : H → List ℕ → List ℕ) (out_len filler size : ℕ) (encoded : ℕ → List ℕ)
    (accepted : List ℕ → Bool) (n : ℕ) (s : HashState ℕ H) → 0 < length (encoded n) → size ≤ out_len
    → length (hash s.hasher (s.sponge.pending ++ encoded n)) ≡ out_len
    → (candidate_check hash out_len filler size encoded accepted n).sampled s
    ≡ Some (accepted (first_outputs size (hash s.hasher (s.sponge.pending ++ encoded n))))
candidate-answer hash out_len filler size encoded accepted n s more fits whole =
    let function = function_of hash out_len filler in
    let draw = unrefused_draw (λ t. Some (sampled function t)) (after_sampled function) in
    ap (λ t. option_map accepted (draws draw size t)) (observed_all-fed s (encoded n))
    ∙ ap (option_map accepted) (fed-drawn function s.hasher s.sponge (encoded n) size more fits whole)

-- the digest of a candidate's message says whether the candidate passes
pub same-answers : {H : Type 0} (hash : H → List ℕ → List ℕ) (out_len filler size bytes : ℕ) (encoded : ℕ → List ℕ)
    (accepted : List ℕ → Bool) (s : HashState ℕ H) (first : ℕ) (digests : List (List ℕ))
    → 0 < bytes → size ≤ out_len → ((message : List ℕ) → length (hash s.hasher message) ≡ out_len)
    → (hasher : H) (pending : List ℕ) → hasher ≡ s.hasher → pending ≡ s.sponge.pending → (l : ℕ)
    → IsDigestOf (hash hasher) pending encoded bytes first digests l
    → (candidate_check hash out_len filler size encoded accepted (first + l)).sampled s
    ≡ (digest_check size accepted l).sampled digests
same-answers hash out_len filler size bytes encoded accepted s first digests more fits whole hasher pending same_hasher
    same_pending l is =
    let some : 0 < length (encoded (first + l)) = omega (arith, is.whole, more) in
    let message = s.sponge.pending ++ encoded (first + l) in
    candidate-answer hash out_len filler size encoded accepted (first + l) s some fits (whole message)
    ∙ sym (ap (option_map (λ digest. accepted (first_outputs size digest))) is.is
    ∙ (λ i. Some (accepted (first_outputs size (hash (same_hasher i) (same_pending i ++ encoded (first + l)))))))
