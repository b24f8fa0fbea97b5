-- Refusals of a transcript.
use Rattle.std.specs.Prelude.{◌≡◌, ℕ, List, Result, Ok, Err}
use Rattle.p3_fs_core.specs.{Interactions.step_of, Steps.Step, declared.interaction.Interaction.Interaction}
use Rattle.p3_fs_core.specs.declared.error.PatternError.{PatternError, TheVariants.{OverCap, Finished, NoMoreSteps}}
use Rattle.p3_fs_core.specs.declared.error.PatternError.TheVariants.{WrongStep, Unplayed}
use Rattle.p3_fs_core.specs.declared.error.TranscriptError.{TranscriptError, TheVariants.{MissingBegin, InvalidKind}}
use Rattle.p3_fs_core.specs.declared.error.TranscriptError.TheVariants.{MismatchedBeginEnd, MissingEnd, BadProofShape}
use Rattle.p3_fs_core.specs.declared.error.TranscriptError.TheVariants.{Pattern, Challenger, LabelTooLong, OutOfMemory}
use Rattle.p3_challenger_core.specs.declared.error.ChallengerError.{ChallengerError}
use Rattle.p3_challenger_core.specs.declared.error.ChallengerError.TheVariants as challenger

-- a challenger's error inside a transcript; out of memory becomes the transcript's own error
abbrev pub transcript_error : ChallengerError → TranscriptError
transcript_error challenger.OutOfMemory = OutOfMemory
transcript_error e = Challenger e

-- the error says that the proof has a bad shape, for this reason
abbrev pub IsBadShape : List ℕ → TranscriptError → Type 0
IsBadShape reason (BadProofShape text) = text.now ≡ reason
IsBadShape reason _ = ⊥

-- a decoder returns what reading gives: the value, or the reason why there is none
abbrev pub Decodes : {T : Type 0} → Result (T × List ℕ) (List ℕ) → Result T TranscriptError → Type 0
Decodes (Ok found) (Ok x) = x ≡ found.0
Decodes (Err reason) (Err e) = IsBadShape reason e
Decodes _ _ = ⊥

-- ---- what an error says

-- why steps are not a pattern, with the positions and the steps
pub data Fault : Type 0 where
  missing_begin : (position : ℕ) (closer : Step) → Fault
  invalid_kind : (begin_position : ℕ) (opener : Step) (position : ℕ) (s : Step) → Fault
  mismatched_begin_end : (begin_position : ℕ) (opener : Step) (position : ℕ) (closer : Step) → Fault
  missing_end : (position : ℕ) (opener : Step) → Fault

-- why a step does not fit a pattern, with the steps, wherever their texts lie
abbrev pub pattern_error_of : PatternError Interaction → PatternError Step
pattern_error_of Finished = Finished
pattern_error_of (NoMoreSteps received) = NoMoreSteps (step_of received)
pattern_error_of (WrongStep received expected) = WrongStep (step_of received) (step_of expected)
pattern_error_of (Unplayed expected) = Unplayed (step_of expected)
pattern_error_of (OverCap len max) = OverCap len max

-- why a transcript was refused
pub data Refusal : Type 0 where
  fault : Fault → Refusal
  bad_proof_shape : (reason : List ℕ) → Refusal
  pattern_error : PatternError Step → Refusal
  challenger_refused : ChallengerError → Refusal
  label_too_long : Refusal
  out_of_memory : Refusal

-- the meaning of an error, with its steps and its reason, wherever their texts lie
abbrev pub refusal_of : TranscriptError → Refusal
refusal_of (MissingBegin info) = fault (missing_begin info.position (step_of info.end))
refusal_of (InvalidKind info) =
    fault (invalid_kind info.begin_position (step_of info.begin) info.interaction_position (step_of info.interaction))
refusal_of (MismatchedBeginEnd info) =
    fault (mismatched_begin_end info.begin_position (step_of info.begin) info.end_position (step_of info.end))
refusal_of (MissingEnd info) = fault (missing_end info.position (step_of info.begin))
refusal_of (BadProofShape reason) = bad_proof_shape reason.now
refusal_of (Pattern e) = pattern_error (pattern_error_of e)
refusal_of (Challenger e) = challenger_refused e
refusal_of LabelTooLong = label_too_long
refusal_of OutOfMemory = out_of_memory

-- the refusal is a fault of steps, of this kind
abbrev pub IsFault : (Fault → Type 0) → Refusal → Type 0
IsFault Is (fault f) = Is f
IsFault Is _ = ⊥
