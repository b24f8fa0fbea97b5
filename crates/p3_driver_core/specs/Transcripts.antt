-- Steps as either driver plays them.
use Rattle.std.specs.Prelude.{◌≡◌, ℕ, ◌+◌, ◌⊎◌, ◌<◌, true, false, List, [], ◌∷◌, ◌++◌, Option, Some, None, take, codes}
use Rattle.std.specs.Prelude.{Result, MatchResult}
use Rattle.p3_fs_core.specs.{Steps.{Step, step_with}, declared.error.PatternError.TheVariants.{Finished, OverCap}}
use Rattle.p3_fs_core.specs.declared.{error.TranscriptError.TranscriptError, step.Hierarchy.TheVariants.Atomic}
use Rattle.p3_fs_core.specs.declared.error.TranscriptError.TheVariants.{Pattern, Challenger, OutOfMemory}
use Rattle.p3_fs_core.specs.declared.step.{Kind.Kind, Length.Length, Length.TheVariants.Fixed}
use Rattle.p3_fs_core.specs.Errors.{IsBadShape, pattern_error_of}
use Rattle.p3_fs_core.specs.declared.step.TypeTag.TheVariants.{Bytes, Opaque, Bits, UniformBits}
use Rattle.p3_patterns.specs.Playing.{Playing, RefusesToPlay, next_step, IsPatternError, FaultOfPlayEnd}
use Rattle.p3_driver_core.specs.Effects.{Effect}
use Rattle.p3_challenger_core.specs.declared.error.ChallengerError.TheVariants as challenger
use Rattle.p3_fs_core.specs.declared.step.Kind.TheVariants as kind

-- the meaning of a step: the pattern's next step, the effect on the challenger, and the step's bytes in the proof
pub record Meaning (S Symbol A : Type 0) : Type 1 where
  pub interaction : Step
  pub effect : Effect S Symbol A
  pub wire : List ℕ

-- the step that carries bytes
abbrev pub bytes_step : Kind → List ℕ → Length → Step
bytes_step kind label length = step_with Atomic kind label Bytes (codes "u8") length

-- the step of a value that only the challenger knows how to observe
abbrev pub opaque_step : Kind → List ℕ → Length → Step
opaque_step kind label length = step_with Atomic kind label Opaque (codes "opaque") length

-- the step that draws numbers of a given bit width
abbrev pub bits_step : List ℕ → ℕ → Length → Step
bits_step label width length = step_with Atomic kind.Challenge label (Bits width) (codes "usize") length

-- the step that draws numbers of a given width in uniform bits
abbrev pub uniform_bits_step : List ℕ → ℕ → Length → Step
uniform_bits_step label width length = step_with Atomic kind.Challenge label (UniformBits width) (codes "usize") length

-- the meaning with this step, effect and bytes in the proof
abbrev pub with_wire : {S Symbol A : Type 0} → Step → Effect S Symbol A → List ℕ → Meaning S Symbol A
with_wire interaction effect wire = record { interaction = interaction; effect = effect; wire = wire }

-- the meaning with this step and effect, and no bytes in the proof
abbrev pub without_wire : {S Symbol A : Type 0} → Step → Effect S Symbol A → Meaning S Symbol A
without_wire interaction effect = with_wire interaction effect []

-- ---- a driver of either side between two steps

-- a challenger, and the progress in the pattern
pub record Transcript (S : Type 0) : Type 0 where
  pub challenger : S
  pub playing : Playing

-- the step may be played: none was refused before, and it is the next one of the pattern
abbrev pub IsNext : Playing → Step → Type 0
IsNext playing s = (playing.finished ≡ false) × (next_step playing ≡ Some s)

-- the player after one more step
abbrev pub step_on : Playing → Playing
step_on playing = record { pattern = playing.pattern; position = playing.position + 1; finished = false }

-- these steps are the next ones, in this order
abbrev pub AreNext : List Step → Playing → Type 0
AreNext [] playing = Unit {0}
AreNext (s ∷ steps) playing = IsNext playing s × AreNext steps (step_on playing)

-- the player after as many more steps
abbrev pub steps_on : List Step → Playing → Playing
steps_on [] playing = playing
steps_on (s ∷ steps) playing = steps_on steps (step_on playing)

-- the player after which no step may follow; its pattern and position stay
abbrev pub halted_player : Playing → Playing
halted_player playing = record { pattern = playing.pattern; position = playing.position; finished = true }

-- the driver after which no step may follow; its challenger stays too
abbrev pub halted : {S : Type 0} → Transcript S → Transcript S
halted transcript = record { challenger = transcript.challenger; playing = halted_player transcript.playing }

-- the step was the next one, and is played with this result and its effect on the challenger
pub record PlaysStep {S Symbol A : Type 0} (m : Meaning S Symbol A) (before : Transcript S) (x : A) (after : Transcript S) :
    Type 0 where
  pub is_next : IsNext before.playing m.interaction
  pub fits : m.effect.fits
  pub gives : m.effect.gives before.challenger ≡ Some x
  pub challenger : after.challenger ≡ m.effect.after before.challenger
  pub playing : after.playing ≡ step_on before.playing

-- the step was not the next one, or one was refused before: nothing was done, and no step may follow
pub record RefusesOrder {S : Type 0} (s : Step) (before : Transcript S) (e : TranscriptError) (after : Transcript S)
    : Type 0 where
  pub playing : RefusesToPlay before.playing s e after.playing
  pub challenger : after.challenger ≡ before.challenger

-- the step was the next one and was abandoned later, with this challenger; no step may follow
pub record Abandons {S : Type 0} (s : Step) (before : Transcript S) (Leaves : S → S → Type 0) (after : Transcript S)
    : Type 0 where
  pub is_next : IsNext before.playing s
  pub leaves : Leaves before.challenger after.challenger
  pub finished : after.playing.finished ≡ true

-- what out of memory leaves of the challenger: no part of the step, the whole of it, or a prefix
abbrev pub LeavesPart : {S Symbol A : Type 0} → Effect S Symbol A → S → S → Type 0
LeavesPart effect s t = (t ≡ s) ⊎ (t ≡ effect.after s) ⊎ effect.refuses challenger.OutOfMemory s t

-- why a step is refused, and the state left: it may not be played, the challenger refused it, or memory was refused
abbrev pub RefusesStep : {S Symbol A : Type 0} → Meaning S Symbol A → Transcript S → TranscriptError →
    Transcript S → Type 0
RefusesStep m before (Pattern e) after = RefusesOrder m.interaction before (Pattern e) after
RefusesStep m before (Challenger challenger.OutOfMemory) after = ⊥
RefusesStep m before (Challenger e) after = Abandons m.interaction before (m.effect.refuses e) after
RefusesStep m before OutOfMemory after = Abandons m.interaction before (LeavesPart m.effect) after
RefusesStep m before _ after = ⊥

-- a list longer than its step allows, or any list after a refused step: nothing was done, and no step may follow
pub record RefusesLength (len max : ℕ) (before : Playing) (e : TranscriptError) (after : Playing) : Type 0 where
  pub fault : ((before.finished ≡ true) × (e ≡ Pattern Finished))
      ⊎ ((before.finished ≡ false) × (max < len) × (e ≡ Pattern (OverCap len max)))
  pub finished : after.finished ≡ true

-- the next step has a list of another length
abbrev pub IsOtherFixed : ℕ → Length → Type 0
IsOtherFixed len (Fixed recorded) = recorded ≡ len → ⊥
IsOtherFixed len _ = ⊥

abbrev pub IsOtherLength : ℕ → Option Step → Type 0
IsOtherLength len None = ⊥
IsOtherLength len (Some s) = IsOtherFixed len s.length

abbrev pub longer_list : List ℕ
longer_list = codes "list length exceeds the recorded maximum"

abbrev pub another_length : List ℕ
another_length = codes "list length differs from the recorded shape"

-- a caller's list of a wrong length, or any list after a refused step: nothing was done, and no step may follow
pub record RefusesCarried (IsWrong : Type 0) (reason : List ℕ) (before : Playing) (e : TranscriptError)
    (after : Playing) : Type 0 where
  pub fault : ((before.finished ≡ true) × (e ≡ Pattern Finished))
      ⊎ ((before.finished ≡ false) × IsWrong × IsBadShape reason e)
  pub finished : after.finished ≡ true

-- a relation of the driver before a call that plays a step, the meaning of its result, the result, and the driver
-- after it
abbrev pub OfCall : Type 0 → Type 0 → Type 0 → Type 1
OfCall Driver R A = Driver → (R → A) → Result R TranscriptError → Driver → Type 0

-- why the end is refused: a step was refused, or one is left
abbrev pub RefusesPlayEnd : Playing → TranscriptError → Type 0
RefusesPlayEnd playing e = IsPatternError (λ m. FaultOfPlayEnd playing (pattern_error_of m)) e

-- the step is played with this result, or it is refused
abbrev pub PlaysOrRefuses : {S Symbol A R : Type 0} → Meaning S Symbol A → OfCall (Transcript S) R A
PlaysOrRefuses m before value result after =
    MatchResult result (λ r. PlaysStep m before (value r) after) (λ e. RefusesStep m before e after)

-- A step keeps the order. It has a result only where it was the next one, and the pattern goes on by one step. Else it
-- is refused, with nothing done where it was not the next one, and no step may follow.
abbrev pub KeepsOrder : {S R : Type 0} → Step → Transcript S → Result R TranscriptError → Transcript S → Type 0
KeepsOrder s before result after =
    MatchResult result (λ _. IsNext before.playing s × (after.playing ≡ step_on before.playing))
    (λ e. RefusesOrder s before e after ⊎ (IsNext before.playing s × (after.playing.finished ≡ true)))

-- the bytes that a refused step leaves: those written before and, with out of memory, a prefix of the step's own
abbrev pub LeavesWire : List ℕ → TranscriptError → List ℕ → List ℕ → Type 0
LeavesWire wire OutOfMemory before after = (n : ℕ) × (after ≡ before ++ take n wire)
LeavesWire wire _ before after = after ≡ before
