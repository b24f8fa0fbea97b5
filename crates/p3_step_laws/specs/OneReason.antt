-- The reasons to refuse a step. Only one is possible, a limit is the reason only if it is met, and memory is the only
-- reason once the other side has played the step.
use Rattle.std.specs.Prelude.{◌≡◌, ◌<◌, ◌≤◌, ◌⊎◌, ℕ, None, List, ◌++◌}
use Rattle.p3_fs_core.specs.{Errors.refusal_of, declared.error.TranscriptError.TranscriptError}
use Rattle.p3_fs_core.specs.declared.error.TranscriptError.TheVariants.{OutOfMemory}
use Rattle.p3_patterns.specs.Playing.{next_step}
use Rattle.p3_driver_core.specs.{Driving.Driving, Transcripts.{longer_list, another_length, Meaning, Transcript}}
use Rattle.p3_driver_core.specs.Transcripts.{RefusesStep, RefusesLength, IsOtherLength, PlaysStep}
use Rattle.p3_driver_core.specs.{Verifying.{RefusesCarriedList, RefusesToRead}, Effects.Effect, Reads.Reading}
use Rattle.p3_challenger_core.specs.declared.error.ChallengerError.TheVariants.{DrawLimit, NoWitness, TooLong}

-- A refusal, except for memory, says which limit is met. It is the draw limit only if this state gives nothing, and too
-- long only if the step's symbols do not fit the alphabet. It is never a missing witness.
pub record TellsLimits {S Symbol A : Type 0} (effect : Effect S Symbol A) : Type 0 where
  pub limit : (s t : S) → effect.refuses DrawLimit s t → effect.gives s ≡ None
  pub too_long : (s t : S) → effect.refuses TooLong s t → effect.fits → ⊥
  pub witness : (s t : S) → effect.refuses NoWitness s t → ⊥

-- A relation of a state, an error and the state after it has one reason. Any two errors in it from one state, neither
-- of them out of memory, say the same.
abbrev pub TellOneReason : {V : Type 0} → (V → TranscriptError → V → Type 0) → Type 0
TellOneReason {V} RefusesStep = (start one other : V) (e f : TranscriptError) → RefusesStep start e one →
    RefusesStep start f other → (e ≡ OutOfMemory → ⊥) → (f ≡ OutOfMemory → ⊥) → refusal_of e ≡ refusal_of f

-- from one state, a step that leaves the proof as it is, or that a prover writes, is refused for one reason
abbrev pub HasOneReason : {S Symbol A : Type 0} → Meaning S Symbol A → Type 0
HasOneReason m = TellOneReason (RefusesStep m)

-- a list is refused as longer than its step allows, or its step is refused
abbrev pub RefusesStepWithin : {S Symbol A : Type 0} → ℕ → ℕ → Meaning S Symbol A → Transcript S → TranscriptError →
    Transcript S → Type 0
RefusesStepWithin len max m = λ before e after.
    RefusesLength len max before.playing e after.playing ⊎ ((len ≤ max) × RefusesStep m before e after)

-- a list from a verifier's caller is refused as longer than its step allows, or its step is refused
abbrev pub RefusesCarriedOrStep : {S Symbol A : Type 0} → ℕ → ℕ → Meaning S Symbol A → Driving S → TranscriptError →
    Driving S → Type 0
RefusesCarriedOrStep len max m = λ before e after. RefusesCarriedList (max < len) longer_list before e after
    ⊎ ((len ≤ max) × RefusesStep m before.transcript e after.transcript)

-- a list from a verifier's caller is refused as not as long as the next step says, or its step is refused
abbrev pub RefusesRecordedOrStep : {S Symbol A : Type 0} → ℕ → Meaning S Symbol A → Driving S → TranscriptError →
    Driving S → Type 0
RefusesRecordedOrStep len m = λ before e after.
    RefusesCarriedList (IsOtherLength len (next_step before.transcript.playing)) another_length before e after ⊎
    ((IsOtherLength len (next_step before.transcript.playing) → ⊥) × RefusesStep m before.transcript e after.transcript)

-- A prover has played the step, and a verifier is at the same state, with the step's bytes next. The verifier's step is
-- refused only when out of memory.
abbrev pub OnlyMemoryRefusesToRead : {S Symbol A : Type 0} → Meaning S Symbol A → Reading S Symbol A → A → Type 0
OnlyMemoryRefusesToRead {S} m r x = (before after : Transcript S) (rest : List ℕ) (start end : Driving S)
    (e : TranscriptError) → PlaysStep m before x after →
    start ≡ record { transcript = before; bytes = m.wire ++ rest } → RefusesToRead r start e end → e ≡ OutOfMemory

-- One side has played the step, and the other is at the same state. The other side's step is refused only when out of
-- memory.
abbrev pub OnlyMemoryRefuses : {S Symbol A : Type 0} → Meaning S Symbol A → Type 0
OnlyMemoryRefuses {S} {Symbol} {A} m = (before after start end : Transcript S) (x : A) (e : TranscriptError) →
    PlaysStep m before x after → start ≡ before → RefusesStep m start e end → e ≡ OutOfMemory
