-- A verifier follows a prover at a step that the prover has played.
use Rattle.std.specs.Prelude.{◌≡◌, ℕ, List, ◌++◌, ◌⊎◌}
use Rattle.p3_fs_core.specs.{Encoding.Encoding, declared.error.TranscriptError.TranscriptError}
use Rattle.p3_fs_core.specs.declared.error.TranscriptError.TheVariants.{Challenger, OutOfMemory}
use Rattle.p3_driver_core.specs.{Transcripts.{Meaning, Transcript, PlaysStep, RefusesStep}, Driving.Driving}
use Rattle.p3_driver_core.specs.Working.{Work, sent_work, observed_work, RefusesToCheck}
use Rattle.p3_driver_core.specs.{Reads.{Reading, received_work}, Verifying.{Receives, RefusesToRead, FailsWork}}

-- the challenger or memory is refused; nothing is wrong with the step or with the proof
abbrev pub IsOwnRefusal : TranscriptError → Type 0
IsOwnRefusal (Challenger e) = Unit {0}
IsOwnRefusal OutOfMemory = Unit {0}
IsOwnRefusal _ = ⊥

-- A prover has played the step, and a verifier is at the same state, with the step's bytes next. The verifier reads
-- the prover's value, leaves the bytes after it, and ends at the prover's state. Otherwise its challenger or memory
-- refuses the step.
pub record Completes {S Symbol A : Type 0} (m : Meaning S Symbol A) (r : Reading S Symbol A) (x : A) : Type 0 where
  pub receives : (before after : Transcript S) (rest : List ℕ) (start end : Driving S) (y : A) →
      PlaysStep m before x after → start ≡ record { transcript = before; bytes = m.wire ++ rest } →
      Receives r start y end → (y ≡ x) × (end ≡ record { transcript = after; bytes = rest })
  pub refuses : (before after : Transcript S) (rest : List ℕ) (start end : Driving S) (e : TranscriptError) →
      PlaysStep m before x after → start ≡ record { transcript = before; bytes = m.wire ++ rest } →
      RefusesToRead r start e end → IsOwnRefusal e

-- One side has played the step, and the other is at the same state. The other side gets the same result and ends at
-- the same state. Otherwise its challenger or memory refuses the step.
pub record CompletesAlike {S Symbol A : Type 0} (m : Meaning S Symbol A) : Type 0 where
  pub plays : (before after start end : Transcript S) (x y : A) → PlaysStep m before x after → start ≡ before →
      PlaysStep m start y end → (y ≡ x) × (end ≡ after)
  pub refuses : (before after start end : Transcript S) (x : A) (e : TranscriptError) → PlaysStep m before x after →
      start ≡ before → RefusesStep m start e end → IsOwnRefusal e

-- ---- proof of work

-- A prover has played a step with this witness, and a verifier is at the same state, with the witness's encoding next.
-- The verifier follows: the witness that it reads passes, and it is refused only when out of memory.
pub record CompletesWork {S Symbol W : Type 0} (work : Work S Symbol W) (enc : Encoding W) (x : W) : Type 0 where
  pub completes : Completes (sent_work work enc x) (received_work work enc) x
  pub refuses : (before after : Transcript S) (rest : List ℕ) (start end : Driving S) (e : TranscriptError) →
      PlaysStep (sent_work work enc x) before x after →
      start ≡ record { transcript = before; bytes = enc.wire x ++ rest } →
      RefusesToRead (received_work work enc) start e end ⊎ FailsWork work enc start e end → e ≡ OutOfMemory

-- A verifier whose caller carries the prover's witness follows the prover in the same way.
pub record CompletesCarriedWork {S Symbol W : Type 0} (work : Work S Symbol W) (x : W) : Type 0 where
  pub completes : CompletesAlike (observed_work work x)
  pub refuses : (before after start end : Transcript S) (e : TranscriptError) →
      PlaysStep (observed_work work x) before x after → start ≡ before → RefusesToCheck work x start e end →
      e ≡ OutOfMemory
