-- Laws of a duplex challenger call by call.
use Rattle.std.{proofs.Common.{◌≡◌, ℕ, List, [], ◌∷◌, ◌++◌, ◌∙◌, refl}, specs.List.flat_map}
use Rattle.p3_field_core.specs.Residues.{Residues}
use Rattle.p3_challenger_core.specs.Observation.{IsObservation, observed_all, unrefused_observe}
use Rattle.p3_challenger_core.specs.ObservationLaws.{unrefused_observe-is_observation}
use Rattle.p3_sponge.specs.SpongeListLaws.{observed_all-append}
use Rattle.p3_duplex.specs.DuplexState.{DuplexState, observed, fed, fed_parts}

module _ {F P : Type 0} (r : Residues F) (permute : P → List F → List F) (rate : ℕ) where
  pub fed-append : (c : DuplexState F P) (xs ys : List F)
      → fed r permute rate (fed r permute rate c xs) ys ≡ fed r permute rate c (xs ++ ys)
  fed-append c xs ys = observed_all-append (observed r permute rate) c xs ys

  -- observing lists one after another observes all their values
  pub fed-flat_map : {X : Type 0} (items : X → List F) (c : DuplexState F P) (xs : List X)
      → observed_all (λ u x. fed r permute rate u (items x)) c xs ≡ fed r permute rate c (flat_map items xs)
  fed-flat_map items c [] = refl
  fed-flat_map items c (x ∷ xs) =
      fed-flat_map items (fed r permute rate c (items x)) xs ∙ fed-append c (items x) (flat_map items xs)

  -- the symbols observed are the symbols fed
  pub is_observation : {X : Type 0} (symbols : X → List F) (observed_value : DuplexState F P → X → DuplexState F P)
      → ((c : DuplexState F P) (x : X) → observed_value c x ≡ fed r permute rate c (symbols x))
      → IsObservation (fed r permute rate) (unrefused_observe symbols observed_value)
  is_observation symbols observed_value feeds =
      unrefused_observe-is_observation (fed r permute rate) (λ _. refl) fed-append symbols observed_value feeds

  -- an observation part by part feeds the symbols of all parts
  pub parts-are_observation : {X Y : Type 0} (items : Y → List F) (parts : X → List Y)
      → IsObservation (fed r permute rate)
      (unrefused_observe (λ x. flat_map items (parts x)) (λ c x. fed_parts r permute rate items c (parts x)))
  parts-are_observation items parts =
      is_observation (λ x. flat_map items (parts x)) _ (λ c x. fed-flat_map items c (parts x))
