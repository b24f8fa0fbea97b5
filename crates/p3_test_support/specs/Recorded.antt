-- A challenger that records the symbols fed to it.
use Rattle.std.proofs.{Common.{◌≡◌, List, [], ◌∷◌, ◌++◌, inl, refl, append_assoc}, lemmas.List.append-nil}
use Rattle.p3_challenger_core.specs.{Sponge.IsNonEmpty, Observation.{Observation, IsObservation, LeavesInCalls}}
use Rattle.p3_challenger_core.specs.ObservationLaws.{exact-observation, unchanged-front}

abbrev pub of_value : {T : Type 0} → Observation (List T) T T
of_value = record { symbols = λ x. x ∷ []; observed = λ s x. s ++ (x ∷ []); may_leave = λ s _ t. t ≡ s }

pub values-recorded : {T : Type 0} → IsObservation (λ (s xs : List T). s ++ xs) of_value
values-recorded =
    exact-observation (λ s xs. s ++ xs) append-nil append_assoc of_value (λ _ _. refl)
    (λ s x t is. unchanged-front (λ u xs. u ++ xs) append-nil append_assoc s t (x ∷ []) is)

pub slice-recorded : {T : Type 0} (s xs t : List T) → IsNonEmpty xs × (t ≡ s) →
    LeavesInCalls of_value.observed of_value.may_leave s xs t
slice-recorded s [] t left = absurd left.0
slice-recorded s (x ∷ xs) t left = inl left.1
