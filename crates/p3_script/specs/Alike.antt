-- Steps that both sides play alike.
use Rattle.std.specs.Prelude.{◌≡◌, ◌⊎◌, ℕ, List, [], Option, Result, MatchResult}
use Rattle.p3_symmetric.specs.declared.digest_hasher.DigestHasher.{Ghosts}
use Rattle.p3_fs_core.specs.declared.error.TranscriptError.{TranscriptError}
use Rattle.p3_fs_core.specs.Steps.{algebra_step}
use Rattle.p3_driver_core.specs.{Driving.Driving, Rejecting.{Rule, drawn_rejecting}, Transcripts.{OfCall, PlaysStep}}
use Rattle.p3_drivers.specs.{Drivers.{Keeps, driving_of}, declared.driver.DriverState.DriverState}
use Rattle.p3_runs.specs.{Plays.{Play, meaning}, Rules.Rules, Sides.{Refusing, Sides}, Stepping.Halts}
use Rattle.p3_runs.specs.Values.{Challenge, Nothing, Value}
use Rattle.p3_script.specs.{Scripts.{play_of, drawn_of}, ScriptRefusals.sides_of, declared.steps.Drawn.Drawn}
use Rattle.p3_fs_core.specs.declared.step.Kind.TheVariants as kind
use Rattle.p3_fs_core.specs.declared.step.Length.TheVariants as lengths
use Rattle.p3_runs.specs.Plays as place
use Rattle.p3_script.specs.declared.steps.Step as script

-- The step has no value, and the proof no bytes of it. It is played on a driver of either side, and this is drawn.
pub record PlaysWithoutValue {S Symbol F EF O : Type 0} (play : Play S Symbol F EF O) (before : Driving S)
    (drawn : Option (Challenge F EF)) (after : Driving S) : Type 0 where
  pub nowhere : play.place ≡ place.Nowhere
  pub fits : play.Fits Nothing
  pub chosen : play.IsChosen before.transcript.challenger Nothing
  pub wire : play.wire Nothing ≡ []
  pub plays : PlaysStep (meaning play Nothing) before.transcript drawn after.transcript
  pub bytes : after.bytes ≡ before.bytes

-- each side refuses the step so, whatever the prover is handed and whatever the verifier's caller carries
abbrev pub EachRefuses : {S F EF : Type 0} → Sides S F EF → Refusing S
EachRefuses {S} {F} {EF} sides before e after = ((given : Value F EF) → sides.prover given before e after)
    × ((witness : Option F) → sides.verifier witness before e after)

-- the step is played and this is drawn, or the step is refused
pub record PlaysOrRefusesAlike {S Symbol F EF O R : Type 0} (play : Play S Symbol F EF O) (sides : Sides S F EF)
    (before : Driving S) (drawn : R → Option (Challenge F EF)) (result : Result R TranscriptError) (after : Driving S) :
    Type 0 where
  pub comes : MatchResult result (λ r. PlaysWithoutValue play before (drawn r) after)
      (λ e. EachRefuses sides before e after ⊎ Halts before e after)

-- a driver of either side plays a script's step and returns what it drew, or the step is refused
abbrev pub PlaysAlike : {Su F EF U O C K Ac D G It St Sy P : Type 0} {hasher : Ghosts D} → Rules St Sy It F EF O Ac →
    (C → St) → (P → List ℕ) → script.Step Su F EF U O C K Ac D G It St Sy → DriverState C U D P hasher →
    Result (Option (Drawn Su F EF U O C K Ac D G It St Sy)) TranscriptError → DriverState C U D P hasher → Type 0
PlaysAlike rules state bytes step before result after = PlaysOrRefusesAlike (play_of rules step) (sides_of rules step)
    (driving_of state bytes before) drawn_of result (driving_of state bytes after)

-- a driver of either side draws elements of the extension until the rule has accepted n of them, or refuses the step
abbrev pub DrawsAccepted : {F EF U O C Ac D It St Sy P R : Type 0} {hasher : Ghosts D} → Rules St Sy It F EF O Ac →
    (C → St) → (P → List ℕ) → List ℕ → ℕ → Rule EF → ℕ → OfCall (DriverState C U D P hasher) R (List EF)
DrawsAccepted {Sy = Sy} rules state bytes label n rule limit before value result after =
    Keeps state bytes (drawn_rejecting {Symbol = Sy} (algebra_step kind.Challenge label rules.extension.algebra
    (lengths.Fixed n)) rules.extension.sampling rule limit n) before value result after
