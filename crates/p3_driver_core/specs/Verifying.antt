-- The effect of a step on a verifier.
use Rattle.std.specs.Prelude.{◌≡◌, ◌≤◌, ◌<◌, ◌⊎◌, true, List, [], ℕ, Some, Ok, Err, Result, MatchResult}
use Rattle.p3_fs_core.specs.{Encoding.Encoding, Errors.pattern_error_of, declared.error.TranscriptError.TranscriptError}
use Rattle.p3_fs_core.specs.declared.error.TranscriptError.TheVariants.{Pattern, BadProofShape, Challenger, OutOfMemory}
use Rattle.p3_driver_core.specs.{Driving.Driving, Working.{ChecksOrRefuses, FailsCheck, Work}}
use Rattle.p3_driver_core.specs.Transcripts.{RefusesCarried, another_length, IsOtherLength, RefusesOrder, RefusesStep}
use Rattle.p3_driver_core.specs.Transcripts.{longer_list, PlaysStep, Abandons, step_on, Meaning, OfCall, IsNext}
use Rattle.p3_driver_core.specs.Reads.{trailing_bytes, received_work, Unreadable, Reading}
use Rattle.p3_patterns.specs.Playing.{FaultOfPlayEnd, IsPlayed, next_step}
use Rattle.p3_challenger_core.specs.declared.error.ChallengerError.TheVariants as challenger

-- the step is played: this is read, and the effect follows
pub record Receives {S Symbol A : Type 0} (r : Reading S Symbol A) (before : Driving S) (x : A)
    (after : Driving S) : Type 0 where
  pub is_next : IsNext before.transcript.playing r.interaction
  pub read : r.read before.bytes ≡ Ok (x, after.bytes)
  pub fits : (r.effect x).fits
  pub gives : (r.effect x).gives before.transcript.challenger ≡ Some x
  pub challenger : after.transcript.challenger ≡ (r.effect x).after before.transcript.challenger
  pub playing : after.transcript.playing ≡ step_on before.transcript.playing

-- nothing is read, for this reason
pub record ReadsNothing {S Symbol A : Type 0} (r : Reading S Symbol A) (before : Driving S) (reason : List ℕ)
    (after : Driving S) : Type 0 where
  pub failure : Unreadable S
  pub is_next : IsNext before.transcript.playing r.interaction
  pub read : r.read before.bytes ≡ Err failure
  pub reason_is : reason ≡ failure.reason
  pub unread : after.bytes ≡ failure.left
  pub challenger : after.transcript.challenger ≡ failure.absorbed before.transcript.challenger
  pub finished : after.transcript.playing.finished ≡ true

-- this was read, and the challenger refuses it
pub record RefusesRead {S Symbol A : Type 0} (r : Reading S Symbol A) (before : Driving S)
    (Leaves : A → S → S → Type 0) (after : Driving S) : Type 0 where
  pub value : A
  pub read : r.read before.bytes ≡ Ok (value, after.bytes)
  pub abandons : Abandons r.interaction before.transcript (Leaves value) after.transcript

-- why a reading step is refused, and the state left
abbrev pub RefusesToRead : {S Symbol A : Type 0} → Reading S Symbol A → Driving S → TranscriptError → Driving S → Type 0
RefusesToRead r before (Pattern e) after =
    RefusesOrder r.interaction before.transcript (Pattern e) after.transcript × (after.bytes ≡ before.bytes)
RefusesToRead r before (BadProofShape reason) after = ReadsNothing r before reason.now after
RefusesToRead r before (Challenger challenger.OutOfMemory) after = ⊥
RefusesToRead r before (Challenger e) after = RefusesRead r before (λ x. (r.effect x).refuses e) after
RefusesToRead r before OutOfMemory after =
    Abandons r.interaction before.transcript (λ s t. r.may_leave before.bytes s after.bytes t) after.transcript
RefusesToRead r before _ after = ⊥

-- the step is played and the result is what was read, or the step is refused
abbrev pub ReceivesOrRefuses : {S Symbol A R : Type 0} → Reading S Symbol A → OfCall (Driving S) R A
ReceivesOrRefuses r before value result after =
    MatchResult result (λ y. Receives r before (value y) after) (λ e. RefusesToRead r before e after)

-- ---- proof of work

-- a witness is read, and too few bits are 0
pub record FailsWork {S Symbol W : Type 0} (work : Work S Symbol W) (enc : Encoding W) (before : Driving S)
    (e : TranscriptError) (after : Driving S) : Type 0 where
  pub witness : W
  pub read : (received_work work enc).read before.bytes ≡ Ok (witness, after.bytes)
  pub fails : FailsCheck work witness before.transcript e after.transcript

-- a witness is read and passes, or the step is refused
abbrev pub ReceivesWork : {S Symbol W R : Type 0} → Work S Symbol W → Encoding W → Driving S →
    Result R TranscriptError → Driving S → Type 0
ReceivesWork {S} {Symbol} {W} work enc before result after =
    MatchResult result (λ _. (x : W) × Receives (received_work work enc) before x after)
    (λ e. RefusesToRead (received_work work enc) before e after ⊎ FailsWork work enc before e after)

-- a carried witness passes or the step is refused; the unread bytes stay the same
abbrev pub ChecksAndKeeps : {S Symbol W R : Type 0} → Work S Symbol W → W → Driving S → Result R TranscriptError →
    Driving S → Type 0
ChecksAndKeeps work x before result after =
    ChecksOrRefuses work x before.transcript result after.transcript × (after.bytes ≡ before.bytes)

-- ---- lists from the caller

-- a list of a wrong length is refused first, with nothing done
pub record RefusesCarriedList {S : Type 0}
    (IsWrong : Type 0) (reason : List ℕ) (before : Driving S) (e : TranscriptError) (after : Driving S) : Type 0 where
  pub playing : RefusesCarried IsWrong reason before.transcript.playing e after.transcript.playing
  pub challenger : after.transcript.challenger ≡ before.transcript.challenger

-- a caller's list of at most max elements
abbrev pub CarriesWithin : {S Symbol A R : Type 0} → ℕ → ℕ → Meaning S Symbol A → OfCall (Driving S) R A
CarriesWithin len max m before value result after = MatchResult result (λ r. (len ≤ max)
    × PlaysStep m before.transcript (value r) after.transcript) (λ e. RefusesCarriedList (max < len) longer_list
    before e after ⊎ ((len ≤ max) × RefusesStep m before.transcript e after.transcript)) × (after.bytes ≡ before.bytes)

-- a caller's list, as long as the next step says, if it does
abbrev pub CarriesAsRecorded : {S Symbol A R : Type 0} → ℕ → Meaning S Symbol A → OfCall (Driving S) R A
CarriesAsRecorded len m before value result after =
    let IsOther = IsOtherLength len (next_step before.transcript.playing) in
    MatchResult result (λ r. PlaysStep m before.transcript (value r) after.transcript)
    (λ e. RefusesCarriedList IsOther another_length before e after
    ⊎ ((IsOther → ⊥) × RefusesStep m before.transcript e after.transcript)) × (after.bytes ≡ before.bytes)

-- all steps are played, none was refused, and no byte is left
pub record EndsReading {S : Type 0} (v : Driving S) : Type 0 where
  pub played : IsPlayed v.transcript.playing
  pub whole : v.bytes ≡ []

-- why a verifier cannot end: a step was refused or is left, or bytes are left after the last step
abbrev pub RefusesEnd : {S : Type 0} → Driving S → TranscriptError → Type 0
RefusesEnd v (Pattern e) = FaultOfPlayEnd v.transcript.playing (pattern_error_of e)
RefusesEnd v (BadProofShape reason) = IsPlayed v.transcript.playing × (v.bytes ≡ [] → ⊥) × (reason.now ≡ trailing_bytes)
RefusesEnd v _ = ⊥
