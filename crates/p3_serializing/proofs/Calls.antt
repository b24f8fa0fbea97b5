-- What methods are as calls on the inner challenger, and a check as calls of a list.
use Rattle.std.proofs.Common.{◌≡◌, ℕ, zero, suc, ◌==◌, List, [], ◌∷◌, ◌++◌, Option, Some, None, IsSome, is_some, refl}
use Rattle.std.specs.Option.{option_map}
use Rattle.p3_field_core.specs.Coefficients.{element_of_one}
use Rattle.p3_serializing.proofs.ReadingGroups.{single-sampled, single-after}
use Rattle.std.{proofs.Common.{ap, ◌∙◌, option_and_then, if◌then◌else◌, sym}, specs.List.flat_map}
use Rattle.p3_challenger_core.specs.{Observation.observed_all, Sampling.{Sampling, draws, after_draws, made_of}}
use Rattle.p3_serializing.specs.{SerializingState.{SerializingState, after_bytes}, SerializingGroups.{Answer, bits}}
use Rattle.p3_challenger_core.specs.Sampling as sampling

-- ---- bytes

observed-append : {I : Type 0} (step : I → ℕ → I) (i : I) (xs ys : List ℕ)
    → observed_all step (observed_all step i xs) ys ≡ observed_all step i (xs ++ ys)
observed-append step i [] ys = refl
observed-append step i (x ∷ xs) ys = observed-append step (step i x) xs ys

module _ {I : Type 0} (step : I → ℕ → I) where
  bytes-append : (s : SerializingState I) (xs ys : List ℕ)
      → after_bytes step (after_bytes step s xs) ys ≡ after_bytes step s (xs ++ ys)
  bytes-append s xs ys =
      ap (λ i. record { inner = i; draw_limit = s.draw_limit }) (observed-append step s.inner xs ys)

  -- values one after another are the bytes of all
  pub row-bytes : {X : Type 0} (bytes : X → List ℕ) (s : SerializingState I) (xs : List X)
      → observed_all (λ u x. after_bytes step u (bytes x)) s xs ≡ after_bytes step s (flat_map bytes xs)
  row-bytes bytes s [] = refl
  row-bytes bytes s (x ∷ xs) =
      row-bytes bytes (after_bytes step s (bytes x)) xs ∙ bytes-append s (bytes x) (flat_map bytes xs)

  -- and so are rows of them
  pub rows-bytes : {X : Type 0} (bytes : X → List ℕ) (s : SerializingState I) (rows : List (List X))
      → observed_all (λ u xs. observed_all (λ v x. after_bytes step v (bytes x)) u xs) s rows
      ≡ after_bytes step s (flat_map (λ xs. flat_map bytes xs) rows)
  rows-bytes bytes s rows =
      (λ i. observed_all (λ u xs. row-bytes bytes u xs i) s rows) ∙ row-bytes (λ xs. flat_map bytes xs) s rows

-- ---- draws of one coefficient

module _ {S F : Type 0} (d : Sampling S F) (nought : F) where
  one : Sampling S F
  one = made_of (element_of_one nought) (sampling.in_row d 1)

  pub ones-drawn : (n : ℕ) (s : S) → draws d n s ≡ draws (made_of (element_of_one nought) (sampling.in_row d 1)) n s
  unfolding draws one
  ones-drawn zero s = refl
  ones-drawn (suc n) s =
      ap (λ o. option_and_then (λ x. option_map (λ xs. x ∷ xs) (draws d n (d.after s))) o)
      (sym (single-sampled d nought s))
      ∙ ap (λ rest. option_and_then (λ x. option_map (λ xs. x ∷ xs) rest) (one.sampled s))
      (ones-drawn n (d.after s) ∙ ap (λ t. draws one n t) (sym (single-after d nought s)))

  pub after_ones : (n : ℕ) (s : S)
      → after_draws d n s ≡ after_draws (made_of (element_of_one nought) (sampling.in_row d 1)) n s
  unfolding after_draws one
  after_ones zero s = refl
  after_ones (suc n) s =
      ap (λ o. if is_some o then after_draws d n (d.after s) else d.after s) (sym (single-sampled d nought s))
      ∙ ap (λ t. if is_some (one.sampled s) then after_draws d n t else t) (sym (single-after d nought s))
      ∙ ap (λ t. if is_some (one.sampled s) then t else one.after s) (after_ones n (one.after s))

-- ---- a check

abbrev pub answer_of : {F : Type 0} → Option ℕ → Answer F
answer_of o = bits o

abbrev pub dropped : Option ℕ → Option (Unit {0})
dropped byte = option_map (λ _. tt) byte

-- where a byte is dropped, the bits that are drawn after it are tested
pub check-sampled : {F : Type 0} (byte drawn : Option ℕ) (n : ℕ) → IsSome byte
    → answer_of {F = F} drawn ∷ [] ≡ answer_of (Some n) ∷ []
    → option_and_then (λ _. option_map (λ k. k == 0) drawn) (dropped byte) ≡ Some (n == 0)
check-sampled None drawn n some answers = cc
check-sampled (Some b) drawn n some answers =
    let is : drawn ≡ Some n = cc in
    ap (option_map (λ k. k == 0)) is

-- and the challenger goes on from there
pub check-after : {S : Type 0} (byte : Option ℕ) (there here : S) → IsSome byte
    → (if is_some (dropped byte) then there else here) ≡ there
check-after None there here some = cc
check-after (Some b) there here some = refl
