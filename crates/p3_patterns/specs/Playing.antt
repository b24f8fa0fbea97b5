-- Playing a pattern step by step.
use Rattle.std.specs.Prelude.{◌≡◌, ℕ, ◌+◌, ◌⊎◌, Bool, true, false, Option, Some, None, slice_get, length}
use Rattle.p3_fs_core.specs.declared.error.{TranscriptError.TranscriptError, TranscriptError.TheVariants.Pattern}
use Rattle.p3_fs_core.specs.declared.{error.PatternError.PatternError, interaction.Interaction.Interaction}
use Rattle.p3_fs_core.specs.declared.error.PatternError.TheVariants.{Finished, NoMoreSteps, WrongStep, Unplayed}
use Rattle.p3_fs_core.specs.{Errors.pattern_error_of, Steps.Step}
use Rattle.p3_patterns.specs.PatternSteps.{PatternSteps}

-- a player: its pattern, the number of steps taken, and whether it has refused a step
pub record Playing : Type 0 where
  pub pattern : PatternSteps
  pub position : ℕ
  pub finished : Bool

-- the next step of the pattern, if there is one
abbrev pub next_step : Playing → Option Step
next_step playing = slice_get playing.pattern.steps playing.position

-- the step is taken: nothing was refused before, and the step is the next one
pub record Plays (before : Playing) (s : Step) (after : Playing) : Type 0 where
  pub going : before.finished ≡ false
  pub next : next_step before ≡ Some s
  pub played : after ≡ record { pattern = before.pattern; position = before.position + 1; finished = false }

-- the next step is a different one, or there is none
abbrev pub IsNotNext : Option Step → Step → PatternError Step → Type 0
IsNotNext next s (NoMoreSteps received) = (received ≡ s) × (next ≡ None)
IsNotNext next s (WrongStep received expected) = (received ≡ s) × (next ≡ Some expected) × (expected ≡ s → ⊥)
IsNotNext next s _ = ⊥

-- why the step is refused: an earlier step was refused, or this step is not the next one
abbrev pub FaultOfPlay : Playing → Step → PatternError Step → Type 0
FaultOfPlay before s e =
    ((before.finished ≡ true) × (e ≡ Finished)) ⊎ ((before.finished ≡ false) × IsNotNext (next_step before) s e)

-- where the error carries the received step, it is this interaction, with its texts at the same
-- addresses
abbrev pub CarriesReceived : Interaction → PatternError Interaction → Type 0
CarriesReceived interaction (NoMoreSteps received) = received ≡ interaction
CarriesReceived interaction (WrongStep received expected) = received ≡ interaction
CarriesReceived interaction _ = Unit {0}

-- all steps are taken, and none was refused
pub record IsPlayed (playing : Playing) : Type 0 where
  pub going : playing.finished ≡ false
  pub end : playing.position ≡ length playing.pattern.steps

-- the error says why the end is refused: steps are left, or one was refused
abbrev pub FaultOfPlayEnd : Playing → PatternError Step → Type 0
FaultOfPlayEnd playing Finished = playing.finished ≡ true
FaultOfPlayEnd playing (Unplayed expected) = (playing.finished ≡ false) × (next_step playing ≡ Some expected)
FaultOfPlayEnd playing _ = ⊥

-- the error is a pattern error of this kind
abbrev pub IsPatternError : (PatternError Interaction → Type 0) → TranscriptError → Type 0
IsPatternError Is (Pattern e) = Is e
IsPatternError Is _ = ⊥

-- the step is refused: the position and the next step stay the same, and nothing may follow
pub record RefusesToPlay (before : Playing) (s : Step) (e : TranscriptError) (after : Playing) : Type 0 where
  pub fault : IsPatternError (λ m. FaultOfPlay before s (pattern_error_of m)) e
  pub finished : after ≡ record { pattern = before.pattern; position = before.position; finished = true }
