-- The steps of a program, as contracts see them.
use Rattle.std.specs.Prelude.{List, [], ◌∷◌}
use Rattle.p3_fs_core.specs.{declared.interaction.Interaction.Interaction, StepFits.{IsProgramStep, AreProgramSteps}}
use Rattle.p3_fs_core.specs.Steps.{Step, step_with}

-- an interaction as a step, wherever its texts lie
abbrev pub step_of : Interaction → Step
step_of i = step_with i.hierarchy i.kind i.label.now i.type_tag i.type_name.now i.length

-- some interaction with this step
abbrev pub interaction_of : (s : Step) → IsProgramStep s → Interaction
interaction_of s fits = record {
  hierarchy = s.hierarchy;
  kind = s.kind;
  label = record { ref_ptr = (0, 0); now = s.label };
  type_tag = s.type_tag;
  type_name = record { ref_ptr = (0, 0); now = s.type_name };
  length = s.length;
  fits = fits;
}

-- some interactions with these steps
abbrev pub interactions_of : (steps : List Step) → AreProgramSteps steps → List Interaction
interactions_of [] fit = []
interactions_of (s ∷ steps) fit = interaction_of s fit.0 ∷ interactions_of steps fit.1
