-- What two rounds observe.
use Rattle.std.proofs.Common.{◌≡◌, List, [], ◌∷◌, ◌++◌, map, ap, ◌∙◌, append-nil}
use Rattle.p3_challenger.specs.{Segments.{observe, draw}, Queries.observed_values}
use Rattle.p3_challenger.specs.CallRowLaws.{observed_values-append, observed_values-observes}
use Rattle.uses.specs.TwoRounds.{two_rounds}

one_round : {T : Type 0} (values : List T) → observed_values (map observe values ++ draw ∷ []) ≡ values
one_round values =
    observed_values-append (map observe values) (draw ∷ [])
    ∙ append-nil (observed_values (map observe values))
    ∙ observed_values-observes values

pub rounds-observe : {T : Type 0} (first second : List T) → observed_values (two_rounds first second) ≡ first ++ second
rounds-observe first second =
    observed_values-append (map observe first) (draw ∷ (map observe second ++ draw ∷ []))
    ∙ ap (λ xs. xs ++ observed_values (map observe second ++ draw ∷ [])) (observed_values-observes first)
    ∙ ap (λ xs. first ++ xs) (one_round second)
