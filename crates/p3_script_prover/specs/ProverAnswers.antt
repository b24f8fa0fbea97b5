-- What a prover returns for a step of a script, and for a whole script.
use Rattle.std.specs.{Prelude.{◌≡◌, List, length, ◌++◌, ◌⊎◌, Option, Some, None, Result, MatchResult}, Borrow.Bor}
use Rattle.p3_fs_core.specs.declared.error.TranscriptError.{TheVariants.OutOfMemory, TranscriptError}
use Rattle.p3_runs.specs.{Rules.Rules, Provings.{RefusesToProve, IsProverRun, IsProved}, Stepping.Halts}
use Rattle.p3_runs.specs.{Plays.{meaning, Play}, Sides.Sides, Runs.{carried_count, if_witness, if_sent}, Fronts.Run}
use Rattle.p3_runs.specs.{Values.{Challenge, IsNothing, Nothing, Witness, Value, one_witness}, Verdicts.with_steps}
use Rattle.p3_script.specs.ScriptRefusals.{sides_of}
use Rattle.p3_script.specs.{Scripts.{play_of, challenges_of, value_sent, drawn_of}, declared.fault.Fault.Fault}
use Rattle.p3_script.specs.declared.steps.{Drawn.Drawn, Sent.Sent}
use Rattle.p3_script_prover.specs.declared.proving.Proved.{Proved}
use Rattle.p3_symmetric.specs.declared.digest_hasher.DigestHasher.{Ghosts}
use Rattle.p3_driver_core.specs.{Driving.Driving, Transcripts.PlaysStep}
use Rattle.p3_drivers.specs.{Drivers.proving_of, declared.{driver.DriverState.DriverState, tape.Written.Written}}
use Rattle.p3_script.specs.declared.steps.Step as script

module _ {Su F EF U O C K Ac D G It St Sy : Type 0} where
  -- the value handed to a prover for a step
  abbrev pub value_given : Option (Bor (Sent Su F EF U O C K Ac D G It St Sy)) → Value F EF
  value_given None = Nothing
  value_given (Some sent) = value_sent sent.now

-- the value of a step: the witness if one was found, else the value handed
abbrev pub value_played : {F EF : Type 0} → Option F → Value F EF → Value F EF
value_played None given = given
value_played (Some x) given = Witness x

-- The step is played with the witness found, or else with the value handed. The value fits the step and, if it is a
-- witness, is the least that passes. Its bytes are added, and this is drawn.
pub record SendsValue {S Symbol F EF O : Type 0} (play : Play S Symbol F EF O) (before : Driving S)
    (given : Value F EF) (witness : Option F) (drawn : Option (Challenge F EF)) (after : Driving S) : Type 0 where
  pub fits : play.Fits (value_played witness given)
  pub sent : if_sent play.place (value_played witness given) ≡ if_sent play.place given
  pub found : if_witness play.place (value_played witness given) ≡ one_witness witness
  pub chosen : play.IsChosen before.transcript.challenger (value_played witness given)
  pub plays : PlaysStep (meaning play (value_played witness given)) before.transcript drawn after.transcript
  pub written : after.bytes ≡ before.bytes ++ play.wire (value_played witness given)

-- The step is played with the value handed or the witness found, and this is drawn; or the step is refused.
pub record SendsOrRefuses {S Symbol F EF O R : Type 0} (play : Play S Symbol F EF O) (sides : Sides S F EF)
    (before : Driving S) (given : Value F EF) (witness : R → Option F) (drawn : R → Option (Challenge F EF))
    (result : Result R TranscriptError) (after : Driving S) : Type 0 where
  pub comes : MatchResult result (λ r. SendsValue play before given (witness r) (drawn r) after)
      (λ e. sides.prover given before e after ⊎ Halts before e after)

-- A step for which nothing is handed is played and this is drawn, or the step is refused.
pub record KnowsOrRefuses {S Symbol F EF O R : Type 0} (play : Play S Symbol F EF O) (sides : Sides S F EF)
    (before : Driving S) (witness : R → Option F) (drawn : R → Option (Challenge F EF)) (result : Result R TranscriptError)
    (after : Driving S) : Type 0 where
  pub comes : (given : Value F EF) → IsNothing given →
      SendsOrRefuses play sides before given witness drawn result after

module _ {Su F EF U O C K Ac D G It St Sy : Type 0} {hasher : Ghosts D} (rules : Rules St Sy It F EF O Ac)
    (state : C → St) (step : script.Step Su F EF U O C K Ac D G It St Sy) where
  -- a prover plays a script's step with this value and returns the witness and the draw, or the step is refused
  abbrev pub PlaysHanded : Option (Bor (Sent Su F EF U O C K Ac D G It St Sy)) → DriverState C U D Written hasher →
      Result (Option F × Option (Drawn Su F EF U O C K Ac D G It St Sy)) TranscriptError →
      DriverState C U D Written hasher → Type 0
  PlaysHanded given before result after = SendsOrRefuses (play_of rules step) (sides_of rules step)
      (proving_of state before) (value_given given) (λ r. r.0) (λ r. drawn_of r.1) result (proving_of state after)

  -- a prover plays a script's step without a value and returns the witness and the draw, or the step is refused
  abbrev pub PlaysUnhanded : DriverState C U D Written hasher → Result (Option F
      × Option (Drawn Su F EF U O C K Ac D G It St Sy)) TranscriptError → DriverState C U D Written hasher → Type 0
  PlaysUnhanded before result after = KnowsOrRefuses (play_of rules step) (sides_of rules step)
      (proving_of state before) (λ r. r.0) (λ r. drawn_of r.1) result (proving_of state after)

module _ {Su F EF U O C K Ac D G It St Sy S Symbol : Type 0} (rules : Rules S Symbol It F EF O Ac)
    (script : Run (script.Step Su F EF U O C K Ac D G It St Sy) F EF S) (sent : List (Value F EF)) where
  -- the values have a run with this proof, these witnesses and challenges, and this challenger; each step with a
  -- witness to carry has one
  abbrev pub IsProvedScript : (C → S) → Proved Su F EF U O C K Ac D G It St Sy → Type 0
  IsProvedScript state proved = IsProved rules (play_of rules) script sent proved.narg.items proved.witnesses.items
      proved.carried.items (challenges_of proved.challenges.items) (state proved.challenger)
      × (carried_count (play_of rules) script.steps ≡ length proved.carried.items)

  -- the values are refused at this position, for this reason; unless the reason is out of memory, they have no run
  abbrev pub IsRefusedScript : Fault → Type 0
  IsRefusedScript fault =
      RefusesToProve rules (play_of rules) (sides_of rules) script sent fault.position fault.error
      × ((fault.error ≡ OutOfMemory → ⊥) →
      (values : List (Value F EF)) → IsProverRun rules (play_of rules) (with_steps script script.steps values) sent → ⊥)
