-- A pattern as a list of steps, with the facts that hold of every pattern in a program.
use Rattle.std.specs.Prelude.{◌≡◌, ◌<◌, ◌^◌, List, length}
use Rattle.p3_fs_core.specs.declared.{interaction.Interaction.Interaction, step.Kind.TheVariants.Protocol}
use Rattle.p3_fs_core.specs.{Interactions.interactions_of, StepFits.AreProgramSteps, Steps.Step}
use Rattle.p3_patterns.specs.PatternGrammar.{IsPattern}

-- the steps of a pattern: they follow the grammar, are fewer than 2^64, and can stand in a program
pub record PatternSteps : Type 0 where
  pub steps : List Step
  pub is_pattern : ∥ IsPattern Protocol steps ∥₁
  pub few : length steps < 2 ^ 64
  pub fit : AreProgramSteps steps

abbrev pub steps_of : PatternSteps → List Step
steps_of pattern = pattern.steps

-- the pattern has these steps, and they follow the grammar
abbrev pub IsPatternOf : PatternSteps → List Step → Type 0
IsPatternOf pattern steps = (steps_of pattern ≡ steps) × IsPattern Protocol (steps_of pattern)

-- some interactions that are the pattern's steps
abbrev pub interactions_in : PatternSteps → List Interaction
interactions_in pattern = interactions_of pattern.steps pattern.fit
