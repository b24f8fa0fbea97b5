-- What a verifier returns for a step of a script, and for a whole script.
use Rattle.std.specs.Prelude.{◌≡◌, ℕ, List, ◌⊎◌, ◌++◌, Option, Some, Result, MatchResult}
use Rattle.p3_fs_core.specs.declared.error.TranscriptError.{TheVariants.OutOfMemory, TranscriptError}
use Rattle.p3_runs.specs.{Fronts.Run, Rules.Rules, Verdicts.{Accepts, HasNoProof, RefusesProof}, Plays.Play}
use Rattle.p3_runs.specs.{Sides.Sides, Stepping.{TakesStep, Halts}, Values.{Value, Challenge}, Runs.if_drawn}
use Rattle.p3_script.specs.ScriptRefusals.{sides_of}
use Rattle.p3_script.specs.Scripts.{play_of, values_received, challenges_of, received_of, drawn_of}
use Rattle.p3_script.specs.declared.{fault.Fault.Fault, steps.{Drawn.Drawn, Received.Received}}
use Rattle.p3_script_verifier.specs.declared.verifying.Verified.{Verified}
use Rattle.p3_symmetric.specs.declared.digest_hasher.DigestHasher.{Ghosts}
use Rattle.p3_driver_core.specs.Driving.{Driving}
use Rattle.p3_drivers.specs.{Drivers.verifying_of, declared.{driver.DriverState.DriverState, tape.Unread.Unread}}
use Rattle.p3_script.specs.declared.steps.Step as script

-- the step is played with the carried witness, if there is one, and this is received and drawn; or the step is refused
pub record TakesOrRefuses {S Symbol F EF O R : Type 0} (play : Play S Symbol F EF O) (sides : Sides S F EF)
    (witness : Option F) (before : Driving S) (received : R → List (Value F EF)) (drawn : R → Option (Challenge F EF))
    (result : Result R TranscriptError) (after : Driving S) : Type 0 where
  pub comes : MatchResult result (λ r. TakesStep play witness before (received r) (drawn r) after)
      (λ e. sides.verifier witness before e after ⊎ Halts before e after)

-- a verifier plays a script's step and returns what it received and drew, or the step is refused
abbrev pub AnswersStep : {Su F EF U O C K Ac D G It St Sy : Type 0} {hasher : Ghosts D} → Rules St Sy It F EF O Ac →
    (C → St) → script.Step Su F EF U O C K Ac D G It St Sy → Option F → DriverState C U D Unread hasher →
    Result (Option (Received Su F EF U O C K Ac D G It St Sy) × Option (Drawn Su F EF U O C K Ac D G It St Sy))
    TranscriptError → DriverState C U D Unread hasher → Type 0
AnswersStep rules state step witness before result after = TakesOrRefuses (play_of rules step) (sides_of rules step)
    witness (verifying_of state before) (λ r. received_of r.0) (λ r. drawn_of r.1) result (verifying_of state after)

-- the step is refused, whatever state is left
pub record IsRefused {S F EF : Type 0} (sides : Sides S F EF) (witness : Option F) (before : Driving S)
    (e : TranscriptError) : Type 0 where
  pub after : Driving S
  pub refuses : sides.verifier witness before e after ⊎ Halts before e after

-- a step is played, and what it received and drew is added to the earlier results
pub record KeepsOne {S Symbol F EF O : Type 0} (play : Play S Symbol F EF O) (witness : Option F) (before : Driving S)
    (received : List (Value F EF)) (drawn : List (Challenge F EF)) (after : Driving S)
    (received_now : List (Value F EF)) (drawn_now : List (Challenge F EF)) : Type 0 where
  pub shown : List (Value F EF)
  pub draws : Option (Challenge F EF)
  pub takes : TakesStep play witness before shown draws after
  pub kept : received_now ≡ received ++ shown
  pub drew : drawn_now ≡ drawn ++ if_drawn (Some draws)

-- a verifier plays a script's step, and what it received and drew is added to the earlier results
abbrev pub KeepsStep : {Su F EF U O C K Ac D G It St Sy : Type 0} {hasher : Ghosts D} → Rules St Sy It F EF O Ac →
    (C → St) → script.Step Su F EF U O C K Ac D G It St Sy → Option F → DriverState C U D Unread hasher →
    List (Received Su F EF U O C K Ac D G It St Sy) → List (Drawn Su F EF U O C K Ac D G It St Sy) →
    DriverState C U D Unread hasher → List (Received Su F EF U O C K Ac D G It St Sy) →
    List (Drawn Su F EF U O C K Ac D G It St Sy) → Type 0
KeepsStep rules state step witness before received drawn after received_now drawn_now = KeepsOne (play_of rules step)
    witness (verifying_of state before) (values_received received) (challenges_of drawn) (verifying_of state after)
    (values_received received_now) (challenges_of drawn_now)

module _ {Su F EF U O C K Ac D G It St Sy S Symbol : Type 0} (rules : Rules S Symbol It F EF O Ac)
    (script : Run (script.Step Su F EF U O C K Ac D G It St Sy) F EF S) (bytes : List ℕ) (carried : List F) where
  -- the proof is accepted with these received values, challenges and challenger
  abbrev pub IsVerifiedScript : (C → S) → Verified Su F EF U O C K Ac D G It St Sy → Type 0
  IsVerifiedScript state verified = Accepts rules (play_of rules) script bytes carried
      (values_received verified.received.items) (challenges_of verified.challenges.items) (state verified.challenger)

  -- the proof is refused at this position, for this reason; unless the reason is out of memory, the bytes are no proof
  abbrev pub IsRefusedProof : Fault → Type 0
  IsRefusedProof fault = RefusesProof rules (play_of rules) (sides_of rules) script bytes carried fault.position fault.error
      × ((fault.error ≡ OutOfMemory → ⊥) → HasNoProof rules (play_of rules) script bytes carried)
