-- Laws of the steps of a program.
use Rattle.std.{specs.Prelude.{◌≡◌, List, [], ◌∷◌, map, refl}, proofs.Common.ap}
use Rattle.p3_fs_core.specs.{declared.interaction.Interaction.Interaction, Interactions.{step_of, interactions_of}}
use Rattle.p3_fs_core.specs.{StepFits.AreProgramSteps, Steps.Step}

-- a program can hold each of its steps
pub each-fits : (interactions : List Interaction) → AreProgramSteps (map step_of interactions)
each-fits [] = tt
each-fits (i ∷ interactions) = (i.fits, each-fits interactions)

-- interactions made of the steps have these steps
pub steps-of_interactions : (steps : List Step) (fit : AreProgramSteps steps) →
    map step_of (interactions_of steps fit) ≡ steps
steps-of_interactions [] fit = refl
steps-of_interactions (s ∷ steps) fit = ap (λ rest. s ∷ rest) (steps-of_interactions steps fit.1)
