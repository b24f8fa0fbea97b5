-- Laws of a multi-field challenger call by call.
use Rattle.std.{proofs.Common.{◌≡◌, ℕ, List, [], ◌∷◌, ◌++◌, ◌∙◌, refl, map}, specs.List.flat_map}
use Rattle.p3_challenger_core.specs.Observation.{IsObservation, observed_all}
use Rattle.p3_challenger_core.specs.ObservationLaws.{unrefused_observe-is_observation}
use Rattle.p3_sponge.specs.SpongeListLaws.{observed_all-append}
use Rattle.p3_multi_field.specs.MultiFieldCalls.{FieldPair, Symbol, scalar, digest}
use Rattle.p3_multi_field.specs.MultiFieldState.{MultiFieldState, fed, observed, scalar_observed, scalars_observed}
use Rattle.p3_multi_field.specs.MultiFieldState.{digest_observed, each_observed}
use Rattle.p3_challenger_core.specs.Observation as observation

module _ {F PF P : Type 0} (pair : FieldPair F PF) (permute : P → List PF → List PF) (rate : ℕ) where
  pub fed-append : (c : MultiFieldState F PF P) (xs ys : List (Symbol F PF))
      → fed pair permute rate (fed pair permute rate c xs) ys ≡ fed pair permute rate c (xs ++ ys)
  fed-append c xs ys = observed_all-append (observed pair permute rate) c xs ys

  pub scalars-append : (c : MultiFieldState F PF P) (xs ys : List F)
      → scalars_observed pair permute rate (scalars_observed pair permute rate c xs) ys
      ≡ scalars_observed pair permute rate c (xs ++ ys)
  scalars-append c xs ys = observed_all-append (scalar_observed pair permute rate) c xs ys

  -- scalars are fed as one symbol each
  pub scalars-fed : (c : MultiFieldState F PF P) (xs : List F)
      → scalars_observed pair permute rate c xs ≡ fed pair permute rate c (map scalar xs)
  scalars-fed c [] = refl
  scalars-fed c (x ∷ xs) = scalars-fed (observed pair permute rate c (scalar x)) xs

  -- digests are fed as one symbol each
  pub digests-fed : (c : MultiFieldState F PF P) (digests : List (List PF))
      → observed_all (digest_observed pair permute rate) c digests ≡ fed pair permute rate c (map digest digests)
  digests-fed c [] = refl
  digests-fed c (words ∷ others) = digests-fed (observed pair permute rate c (digest words)) others

  -- lists of scalars, observed one after another, are fed as all their scalars
  pub lists-fed : {X : Type 0} (items : X → List F) (c : MultiFieldState F PF P) (xs : List X)
      → each_observed items (scalars_observed pair permute rate) c xs
      ≡ fed pair permute rate c (flat_map (λ x. map scalar (items x)) xs)
  lists-fed items c [] = refl
  lists-fed items c (x ∷ xs) =
      lists-fed items (scalars_observed pair permute rate c (items x)) xs
      ∙ (λ i. fed pair permute rate (scalars-fed c (items x) i) (flat_map (λ y. map scalar (items y)) xs))
      ∙ fed-append c (map scalar (items x)) (flat_map (λ y. map scalar (items y)) xs)

  -- observations feed their symbols
  pub is_observation : {X : Type 0} (symbols : X → List (Symbol F PF))
      (observed_value : MultiFieldState F PF P → X → MultiFieldState F PF P)
      → ((c : MultiFieldState F PF P) (x : X) → observed_value c x ≡ fed pair permute rate c (symbols x))
      → IsObservation (fed pair permute rate) (observation.unrefused_observe symbols observed_value)
  is_observation symbols observed_value feeds =
      unrefused_observe-is_observation (fed pair permute rate) (λ _. refl) fed-append symbols observed_value feeds
