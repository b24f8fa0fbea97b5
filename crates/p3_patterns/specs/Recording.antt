-- Recording a pattern step by step.
use Rattle.std.specs.Prelude.{◌≡◌, ◌⊎◌, Bool, true, false, List, [], ◌∷◌, ◌++◌}
use Rattle.p3_fs_core.specs.declared.error.{TranscriptError.TranscriptError, PatternError.TheVariants.Finished}
use Rattle.p3_fs_core.specs.{declared.error.TranscriptError.TheVariants.{MissingEnd, Pattern, OutOfMemory}, Steps.Step}
use Rattle.p3_fs_core.specs.{Errors.missing_end, Interactions.step_of}
use Rattle.p3_patterns.specs.PatternGrammar.{MayFollow, IsFirstFault, NamesFirstFault}

-- a recorder: the steps taken, and whether it has refused a step
pub record Recording : Type 0 where
  pub steps : List Step
  pub finished : Bool

-- the step is taken: nothing was refused before, and some pattern begins with the steps and this one
pub record Records (before : Recording) (s : Step) (after : Recording) : Type 0 where
  pub going : before.finished ≡ false
  pub viable : MayFollow s before.steps
  pub recorded : after ≡ record { steps = before.steps ++ (s ∷ []); finished = false }

-- why the step is refused after these: it makes the steps' first fault, or some pattern begins with it and
-- memory was refused
abbrev pub FaultOfNext : List Step → Step → TranscriptError → Type 0
FaultOfNext steps s e =
    ((MayFollow s steps → ⊥) × NamesFirstFault (steps ++ (s ∷ [])) e) ⊎ (MayFollow s steps × (e ≡ OutOfMemory))

-- The step is refused, because an earlier one was or because it may not come next. Nothing may follow it.
pub record RefusesToRecord (before : Recording) (s : Step) (e : TranscriptError) (after : Recording) : Type 0 where
  pub fault : ((before.finished ≡ true) × (e ≡ Pattern Finished))
      ⊎ ((before.finished ≡ false) × FaultOfNext before.steps s e)
  pub finished : after ≡ record { steps = before.steps; finished = true }

-- the error names the innermost opener that the steps leave open at their end
abbrev pub NamesMissingEnd : List Step → TranscriptError → Type 0
NamesMissingEnd steps (MissingEnd info) = IsFirstFault steps (missing_end info.position (step_of info.begin))
NamesMissingEnd steps _ = ⊥

-- why a recording is not a pattern at its end: a step was refused, or a container is still open
abbrev pub FaultOfEnd : Recording → TranscriptError → Type 0
FaultOfEnd taken e =
    ((taken.finished ≡ true) × (e ≡ Pattern Finished)) ⊎ ((taken.finished ≡ false) × NamesMissingEnd taken.steps e)
