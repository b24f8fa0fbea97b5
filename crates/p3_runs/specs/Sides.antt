-- The refusals of a script's step by the two sides of a transcript.
use Rattle.std.specs.Prelude.{◌≡◌, ℕ, ◌≤◌, ◌⊎◌, Option, Some, None}
use Rattle.p3_fs_core.specs.{Encoding.Encoding, declared.error.TranscriptError.TranscriptError}
use Rattle.p3_driver_core.specs.{Driving.Driving, Proving.{RefusesToWrite, RefusesLongList, Unwritten}}
use Rattle.p3_driver_core.specs.{Reads.received_work, Transcripts.{Meaning, RefusesStep}}
use Rattle.p3_driver_core.specs.{Verifying.{RefusesToRead, FailsWork}, Working.{Work, RefusesToGrind, RefusesToCheck}}
use Rattle.p3_step_laws.specs.OneReason.{RefusesCarriedOrStep, RefusesRecordedOrStep}
use Rattle.p3_runs.specs.{Plays.{Play, meaning}, Values.{Nothing, Value}}

-- a relation of a side at a step: its state before, the error, and its state after
abbrev pub Refusing : Type 0 → Type 1
Refusing S = Driving S → TranscriptError → Driving S → Type 0

-- The refusals of a step by its two sides. Those of a prover depend on the value that it was handed. Those of a verifier
-- depend on the witness that its caller carries, if any.
pub record Sides (S F EF : Type 0) : Type 1 where
  pub prover : Value F EF → Refusing S
  pub verifier : Option F → Refusing S

-- the refusals for a value that was found, if there is one
abbrev pub refuses_some : {S A : Type 0} → (A → Refusing S) → Option A → Refusing S
refuses_some refuses None before e after = ⊥
refuses_some refuses (Some x) before e after = refuses x before e after

-- ---- why a side refuses

-- the step is refused, and the bytes of the proof stay the same
abbrev pub RefusesKept : {S Symbol A : Type 0} → Meaning S Symbol A → Refusing S
RefusesKept m before e after = RefusesStep m before.transcript e after.transcript × (after.bytes ≡ before.bytes)

-- a list with a greatest length is refused on the prover's side
abbrev pub RefusesWithin : {S Symbol A : Type 0} → ℕ → ℕ → Meaning S Symbol A → Refusing S
RefusesWithin len max m before e after = (RefusesLongList len max before e after
    ⊎ ((len ≤ max) × RefusesStep m before.transcript e after.transcript)) × (after.bytes ≡ before.bytes)

-- a list with a greatest length is refused on the verifier's side
abbrev pub RefusesCarriedWithin : {S Symbol A : Type 0} → ℕ → ℕ → Meaning S Symbol A → Refusing S
RefusesCarriedWithin len max m before e after =
    RefusesCarriedOrStep len max m before e after × (after.bytes ≡ before.bytes)

-- a list as long as the next step says is refused
abbrev pub RefusesAsRecorded : {S Symbol A : Type 0} → ℕ → Meaning S Symbol A → Refusing S
RefusesAsRecorded len m before e after = RefusesRecordedOrStep len m before e after × (after.bytes ≡ before.bytes)

-- a prover does not write a value with a greatest length
abbrev pub RefusesToWriteWithin : {S Symbol A : Type 0} → ℕ → ℕ → Meaning S Symbol A → Refusing S
RefusesToWriteWithin len max m before e after =
    RefusesLongList len max before e after ⊎ ((len ≤ max) × RefusesToWrite m before e after)

-- a prover finds no witness
abbrev pub RefusesToGrindAndKeep : {S Symbol W : Type 0} → Work S Symbol W → (S → Type 0) → Refusing S
RefusesToGrindAndKeep work may_run_out before e after =
    RefusesToGrind work may_run_out before.transcript e after.transcript × (after.bytes ≡ before.bytes)

-- a prover finds no witness, or does not write it
abbrev pub RefusesToGrindAndWrite : {S Symbol W : Type 0} → Work S Symbol W → Encoding W → (S → Type 0) → Refusing S
RefusesToGrindAndWrite work enc may_run_out before e after =
    RefusesToGrindAndKeep work may_run_out before e after ⊎ Unwritten work enc before e after

-- a verifier reads no witness, or it does not pass
abbrev pub RefusesToReadWork : {S Symbol W : Type 0} → Work S Symbol W → Encoding W → Refusing S
RefusesToReadWork work enc before e after =
    RefusesToRead (received_work work enc) before e after ⊎ FailsWork work enc before e after

-- a witness that its caller carries does not pass
abbrev pub RefusesCarriedWork : {S Symbol W : Type 0} → Work S Symbol W → W → Refusing S
RefusesCarriedWork work x before e after =
    RefusesToCheck work x before.transcript e after.transcript × (after.bytes ≡ before.bytes)

-- ---- the sides of a step

-- both sides know the value
abbrev pub sides_known : {S F EF : Type 0} → Refusing S → Refusing S → Sides S F EF
sides_known proving verifying = record { prover = λ _. proving; verifier = λ _. verifying }

-- both sides refuse the step alike, and leave the bytes of the proof as they are
abbrev pub sides_alike : {S Symbol F EF O : Type 0} → Play S Symbol F EF O → Sides S F EF
sides_alike play = sides_known (RefusesKept (meaning play Nothing)) (RefusesKept (meaning play Nothing))

-- the prover is handed the value and sends it, and the verifier reads it
abbrev pub sides_sent : {S F EF A : Type 0} → (Value F EF → Option A) → (A → Refusing S) → Refusing S → Sides S F EF
sides_sent found proving verifying =
    record { prover = λ v. refuses_some proving (found v); verifier = λ _. verifying }

-- a witness that the prover finds and the verifier reads
abbrev pub sides_ground : {S Symbol F EF : Type 0} → Work S Symbol F → Encoding F → (S → Type 0) → Sides S F EF
sides_ground work enc may_run_out =
    record { prover = λ _. RefusesToGrindAndWrite work enc may_run_out; verifier = λ _. RefusesToReadWork work enc }

-- a witness that the prover finds and the verifier's caller carries
abbrev pub sides_carried : {S Symbol F EF : Type 0} → Work S Symbol F → (S → Type 0) → Sides S F EF
sides_carried work may_run_out = record {
  prover = λ _. RefusesToGrindAndKeep work may_run_out;
  verifier = refuses_some (RefusesCarriedWork work);
}
