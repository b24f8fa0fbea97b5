-- Laws of lists of values that a transcript has bound.
use Rattle.std.proofs.{Common.{◌≡◌, List, [], ◌∷◌, ◌++◌, ap, ◌∙◌, map}, lemmas.List.map-append}
use Rattle.p3_driver_core.specs.{Bound.bound_value, declared.bound.TranscriptBound.TranscriptBound}

-- the values with one more at the end
pub values-more : {T : Type 0} (bounds new : List (TranscriptBound T)) (b : TranscriptBound T) (x : T) →
    new ≡ bounds ++ (b ∷ []) → bound_value b ≡ x → map bound_value new ≡ map bound_value bounds ++ (x ∷ [])
values-more bounds new b x grown is = ap (map bound_value) grown
    ∙ map-append bound_value bounds (b ∷ []) ∙ ap (λ y. map bound_value bounds ++ (y ∷ [])) is
