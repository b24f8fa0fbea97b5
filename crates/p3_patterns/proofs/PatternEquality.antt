-- Patterns compare as the lists of their steps, and equal exactly where they have the same.
use Rattle.std.proofs.Common.{◌≡◌, ◌↔◌, true, List, [], ◌∷◌, map, refl, sym, ap, subst, ◌∙◌}
use Rattle.std.{proofs.lemmas.Bool.Decides.{Decides-and, Decides-like}, specs.Cmp.Lexicographic.pointwise}
use Rattle.p3_field_core.specs.Equality.{IsExact}
use Rattle.p3_fs_core.specs.{declared.interaction.Interaction.Interaction, InteractionLaws.steps-of_interactions}
use Rattle.p3_fs_core.specs.{Interactions.{step_of, interaction_of, interactions_of}, StepFitLaws.IsProgramStep-prop}
use Rattle.p3_fs_core.specs.{StepFits.AreProgramSteps, Steps.Step}
use Rattle.p3_patterns.specs.{PatternStepLaws.PatternSteps-same, PatternSteps.{PatternSteps, interactions_in}}
use Rattle.p3_fs_core.specs.contracts.interaction.InteractionPartialEq.TheImpl as interactions
use Rattle.p3_patterns.specs.contracts.comparison.InteractionPatternPartialEq.TheImpl as patterns

-- ---- interactions with their texts at one place

abbrev pub placed : Interaction → Interaction
placed i = interaction_of (step_of i) i.fits

all-placed : (xs : List Interaction) (fit : AreProgramSteps (map step_of xs)) →
    interactions_of (map step_of xs) fit ≡ map placed xs
all-placed [] fit = refl
all-placed (x ∷ xs) fit =
    λ i. interaction_of (step_of x) (IsProgramStep-prop (step_of x) fit.0 x.fits i) ∷ all-placed xs fit.1 i

-- a pattern's interactions are those that have its steps, but for the places of the texts
pub pattern-placed : (xs : List Interaction) (pattern : PatternSteps) → map step_of xs ≡ pattern.steps →
    interactions_in pattern ≡ map placed xs
pattern-placed xs pattern same =
    let IsPlaced : List Step → Type 0 = λ (steps : List Step). (fit : AreProgramSteps steps) →
    interactions_of steps fit ≡ map placed xs in
    subst IsPlaced same (all-placed xs) pattern.fit

-- ---- equality

-- where interactions compare equal exactly if they are one step
module _ (compared : (a b : Interaction) → (interactions.ghosts.eq a b ≡ true ↔ step_of a ≡ step_of b)) where
  equal_items : (xs ys : List Interaction) →
      (pointwise interactions.ghosts.eq xs ys ≡ true ↔ map step_of xs ≡ map step_of ys)
  equal_items [] [] = (λ _. refl, λ _. refl)
  equal_items [] (y ∷ ys) = (λ e. absurd (cc), λ e. absurd (cc))
  equal_items (x ∷ xs) [] = (λ e. absurd (cc), λ e. absurd (cc))
  equal_items (x ∷ xs) (y ∷ ys) =
      Decides-like _ (λ p i. p.0 i ∷ p.1 i) (λ e. (cc, cc)) (Decides-and _ _ (compared x y) (equal_items xs ys))

  pub equal_patterns : IsExact patterns.ghosts.eq
  equal_patterns a b =
      let first = steps-of_interactions a.steps a.fit in
      let second = steps-of_interactions b.steps b.fit in
      Decides-like _
      (λ e. PatternSteps-same a b (sym first ∙ e ∙ second))
      (λ e. first ∙ ap (λ p. p.steps) e ∙ sym second)
      (equal_items (interactions_in a) (interactions_in b))
