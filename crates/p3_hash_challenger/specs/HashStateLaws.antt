-- Laws of a hash challenger call by call.
use Rattle.std.proofs.Common.{◌≡◌, ℕ, Some, List, [], ◌∷◌, ◌++◌, ◌⊎◌, inl, inr, length, take, ◌==◌, false, refl, sym}
use Rattle.p3_challenger_core.specs.Observation.{IsObservation, LeavesFed, LeavesAfter, LeavesBeginning}
use Rattle.p3_challenger_core.specs.ObservationLaws.{nothing-fed, exact-observation, unchanged-front, after_append}
use Rattle.p3_challenger_core.specs.Sampling.{IsSampling, unrefused_draw}
use Rattle.p3_challenger_core.specs.SamplingLaws.{unrefused_draw-is_sampling, one_step}
use Rattle.p3_hash_challenger.specs.HashState.{HashState, observed, fed, array_observed, sampled, after_sampled, LeavesParts}
use Rattle.p3_hash_challenger.specs.HashState.{observation_of_value, observation_of_array, observation_of_list}
use Rattle.std.{proofs.Common.{ap, subst, ◌∙◌, append_assoc, append-nil}, specs.List.flat_map}
use Rattle.p3_challenger_core.specs.{Sponge.IsNonEmpty, Observation.{LeavesInCalls, observed_all}}
use Rattle.p3_hash_challenger.specs.{HashCalls.{HashFunction, with_pending}, HashState.observation_of_parts}

-- feeding two lists in turn feeds their concatenation
pub fed-append : {T H : Type 0} (s : HashState T H) (xs ys : List T) → fed (fed s xs) ys ≡ fed s (xs ++ ys)
fed-append s [] ys = refl
fed-append s (x ∷ xs) [] =
    ap (λ v. record { sponge = with_pending (s.sponge.pending ++ (x ∷ v)); hasher = s.hasher }) (sym (append-nil xs))
fed-append s (x ∷ xs) (y ∷ ys) =
    ap (λ p. record { sponge = with_pending p; hasher = s.hasher }) (append_assoc s.sponge.pending (x ∷ xs) (y ∷ ys))

-- values observed in order are fed as a list
pub observed_all-fed : {T H : Type 0} (s : HashState T H) (xs : List T) → observed_all observed s xs ≡ fed s xs
observed_all-fed s [] = refl
observed_all-fed s (x ∷ xs) = observed_all-fed (observed s x) xs ∙ fed-append s (x ∷ []) xs

-- a non-empty array is fed as a list
pub array_observed-fed : {T H : Type 0} (s : HashState T H) (xs : List T) → IsNonEmpty xs
    → array_observed s xs ≡ fed s xs
array_observed-fed s [] h = absurd h
array_observed-fed s (x ∷ xs) h = refl

-- a non-empty list is appended to the pending values
pub array_observed-is_fed : {T H : Type 0} (s : HashState T H) (xs : List T) → (length xs == 0) ≡ false
    → array_observed s xs ≡ fed s xs
array_observed-is_fed s [] h = cc
array_observed-is_fed s (x ∷ xs) h = refl

-- parts fed in order are fed as one list
pub all_fed : {T H X : Type 0} (parts : X → List T) (s : HashState T H) (xs : List X)
    → observed_all (λ t x. fed t (parts x)) s xs ≡ fed s (flat_map parts xs)
all_fed parts s [] = refl
all_fed parts s (x ∷ xs) = all_fed parts (fed s (parts x)) xs ∙ fed-append s (parts x) (flat_map parts xs)

-- ---- observations feed their symbols, and what a refusal leaves

-- a refusal that changes nothing has fed nothing
module _ {T H : Type 0} where
  unchanged : (s t : HashState T H) (symbols : List T) → t ≡ s → LeavesFed fed s symbols t
  unchanged s t symbols is = (0, nothing-fed fed (λ _. refl) fed-append s t is)

  unchanged-following : (s : HashState T H) (before : List T) (t : HashState T H) (symbols : List T) → t ≡ fed s before
      → LeavesAfter fed s before symbols t
  unchanged-following s before t symbols is = (0, is ∙ ap (fed s) (sym (append-nil before)))

-- one value, or a slice of them
pub values-observed : {T H : Type 0} → IsObservation fed (observation_of_value {T = T} {H = H})
values-observed =
    exact-observation fed (λ _. refl) fed-append observation_of_value (λ _ _. refl)
    (λ s x t is. unchanged-front fed (λ _. refl) fed-append s t (x ∷ []) is)

pub values-front : {T H : Type 0} (s : HashState T H) (xs : List T) (t : HashState T H) → IsNonEmpty xs × (t ≡ s)
    → LeavesBeginning observed s xs t
values-front s [] t left = absurd left.0
values-front s (x ∷ xs) t left = inl left.1

array-traceless : {T H : Type 0} (s : HashState T H) (xs : List T) (y : T) (ys : List T)
    → fed (array_observed s xs) (y ∷ ys) ≡ fed s (xs ++ y ∷ ys)
array-traceless s [] y ys =
    ap (λ p. record { sponge = with_pending (p ++ y ∷ ys); hasher = s.hasher }) (append-nil s.sponge.pending)
array-traceless s (x ∷ xs) y ys = fed-append s (x ∷ xs) (y ∷ ys)

array-following : {T H : Type 0} (s : HashState T H) (y : T) (ys xs : List T)
    → array_observed (fed s (y ∷ ys)) xs ≡ fed s ((y ∷ ys) ++ xs)
array-following s y ys xs =
    ap (λ p. record { sponge = with_pending p; hasher = s.hasher }) (append_assoc s.sponge.pending (y ∷ ys) xs)

pub arrays-observed : {T H : Type 0} → IsObservation fed (observation_of_array {T = T} {H = H})
arrays-observed =
    record {
      observes = λ s xs. record { exactly = array_observed-fed s xs; traceless = array-traceless s xs };
      observes_after = array-following;
      leaves = λ s xs t is. unchanged s t xs is;
      leaves_after = λ s y ys xs t is. unchanged-following s (y ∷ ys) t xs is;
    }

-- a value that is fed as one list
pub lists-observed : {T H X : Type 0} (values : X → List T) → IsObservation fed (observation_of_list {H = H} values)
lists-observed values =
    exact-observation fed (λ _. refl) fed-append (observation_of_list values) (λ _ _. refl)
    (λ s x t is. unchanged-front fed (λ _. refl) fed-append s t (values x) is)

-- a value of parts that are fed one after another
module _ {T H X U : Type 0} (parts : X → List U) (items : U → List T) where
  -- where a part is refused, a prefix of the symbols was fed
  beginning-fed : (s : HashState T H) (ps : List U) (t : HashState T H) → LeavesParts items s ps t
      → (n : ℕ) × (t ≡ fed s (take n (flat_map items ps)))
  beginning-fed s [] t h = absurd h
  beginning-fed s (p ∷ ps) t (inl is) = (0, is)
  beginning-fed s (p ∷ ps) t (inr later) =
      let left = beginning-fed (fed s (items p)) ps t later in
      let front = after_append left.0 (items p) (flat_map items ps) in
      (front.0, left.1 ∙ fed-append s (items p) (take left.0 (flat_map items ps)) ∙ ap (fed s) (sym front.1))

  pub parts-observed : IsObservation fed (observation_of_parts {H = H} parts items)
  parts-observed =
      exact-observation fed (λ _. refl) fed-append (observation_of_parts parts items) (λ _ _. refl) (λ s x t h. beginning-fed s (parts x) t h)

  -- a refusal is among the parts of the first value, or among the later parts
  beginning-split : (s : HashState T H) (ps qs : List U) (t : HashState T H) → LeavesParts items s (ps ++ qs) t
      → LeavesParts items s ps t ⊎ LeavesParts items (observed_all (λ u part. fed u (items part)) s ps) qs t
  beginning-split s [] qs t h = inr h
  beginning-split s (p ∷ ps) qs t (inl is) = inl (inl is)
  beginning-split s (p ∷ ps) qs t (inr later) = elim (beginning-split (fed s (items p)) ps qs t later) [
    | inl here ↦ inl (inr here)
    | inr following ↦ inr following
  ]

  pub parts-front : (s : HashState T H) (xs : List X) (t : HashState T H)
      → LeavesParts items s (flat_map parts xs) t → LeavesInCalls (observation_of_parts {H = H} parts items).observed (observation_of_parts parts items).may_leave s xs t
  parts-front s [] t h = absurd h
  parts-front s (x ∷ xs) t h = elim (beginning-split s (parts x) (flat_map parts xs) t h) [
    | inl here ↦ inl here
    | inr following ↦
        let moved = subst (λ u. LeavesParts items u (flat_map parts xs) t) (all_fed items s (parts x)) following
        in
        inr (parts-front (fed s (flat_map items (parts x))) xs t moved)
  ]

-- ---- draws

-- each draw is a smallest draw
pub values-sampled : {T H : Type 0} (function : H → HashFunction T) →
    IsSampling (after_sampled function) (unrefused_draw (λ s. Some (sampled function s)) (after_sampled function))
values-sampled function =
    unrefused_draw-is_sampling (after_sampled function) (λ s. Some (sampled function s)) (after_sampled function)
    (one_step (after_sampled function))
