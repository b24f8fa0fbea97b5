-- The steps of a group on a driver.
use Rattle.std.specs.Prelude.{Result}
use Rattle.p3_fs_core.specs.{Encoding.Encoding, declared.error.TranscriptError.TranscriptError}
use Rattle.p3_driver_core.specs.{Proving.{GrindsAndKeeps, GrindsAndWrites}, Reads.received_work, Verifying.ReceivesWork}
use Rattle.p3_driver_core.specs.{Transcripts.{Meaning, OfCall, PlaysOrRefuses}, Working.{Work, sent_work}}
use Rattle.p3_drivers.specs.Drivers.{played_by, proving_of, verifying_of}
use Rattle.p3_drivers.specs.declared.{driver.DriverState.DriverState, tape.{Written.Written, Unread.Unread}}
use Rattle.p3_step_laws.specs.ReadBack.{AnyValue, OnlyReads}
use Rattle.p3_symmetric.specs.declared.digest_hasher.DigestHasher.{Ghosts}

module _ {C U D S Symbol : Type 0} {hasher : Ghosts D} (state : C → S) where
  -- a driver of either side plays the step and returns its result, or refuses the step
  abbrev pub PlaysOnDriver : {P A R : Type 0} → Meaning S Symbol A → OfCall (DriverState C U D P hasher) R A
  PlaysOnDriver m before value result after =
      PlaysOrRefuses m (played_by state before) value result (played_by state after)

  -- a prover finds the least witness that passes and sends it, or refuses the step
  abbrev pub SendsWork : {W R : Type 0} → Work S Symbol W → Encoding W → (S → Type 0) →
      DriverState C U D Written hasher → Result R TranscriptError → DriverState C U D Written hasher → Type 0
  SendsWork work enc may_run_out before result after =
      GrindsAndWrites work enc may_run_out (proving_of state before) result (proving_of state after)

  -- a prover finds the least witness that passes and returns it, or refuses the step
  abbrev pub FindsWork : {W : Type 0} → Work S Symbol W → (S → Type 0) → DriverState C U D Written hasher →
      Result W TranscriptError → DriverState C U D Written hasher → Type 0
  FindsWork work may_run_out before result after =
      GrindsAndKeeps work may_run_out (proving_of state before) (λ x. x) result (proving_of state after)

  -- a verifier reads a witness that passes, or refuses the step
  abbrev pub ReadsWork : {W R : Type 0} → Work S Symbol W → Encoding W → DriverState C U D Unread hasher →
      Result R TranscriptError → DriverState C U D Unread hasher → Type 0
  ReadsWork work enc before result after =
      ReceivesWork work enc (verifying_of state before) result (verifying_of state after)

-- a verifier reads a witness from just the bytes that a prover sends for it
abbrev pub OnlyReadsWork : {S Symbol W : Type 0} → Work S Symbol W → Encoding W → Type 0
OnlyReadsWork work enc = OnlyReads (received_work work enc) AnyValue (sent_work work enc)
