-- A verifier that plays the run of a prover.
use Rattle.std.specs.Prelude.{ℕ, List}
use Rattle.p3_runs.specs.{Fronts.Run, Plays.Play, Provings.IsProverOutcome, Rules.Rules, Values.{Value, Challenge}}
use Rattle.p3_runs.specs.Verdicts.{with_steps, Accepts, IsOutcome}
use Rattle.p3_script.specs.Scripts.{play_of, values_received, challenges_of}
use Rattle.p3_script_prover.specs.declared.proving.Proved.{Proved}
use Rattle.p3_script_verifier.specs.declared.verifying.Verified.{Verified}
use Rattle.p3_script.specs.declared.steps.Drawn.{Drawn}
use Rattle.p3_script.specs.declared.steps.Step as script

-- The prover and the verifier play one run. It has the prover's bytes, witnesses, challenges and challenger, and the
-- verifier's received values, challenges and challenger. So both challenges and challengers agree.
pub record PlaysOneRun {X S Symbol I F EF O Ac : Type 0} (rules : Rules S Symbol I F EF O Ac)
    (play : X → Play S Symbol F EF O) (script : Run X F EF S) (sent : List (Value F EF)) (narg : List ℕ)
    (witnesses carried : List F) (drawn : List (Challenge F EF)) (end : S) (received : List (Value F EF))
    (drawn_again : List (Challenge F EF)) (end_again : S) : Type 0 where
  pub values : List (Value F EF)
  pub proved : IsProverOutcome rules play (with_steps script script.steps values) sent narg witnesses carried drawn end
  pub verified : IsOutcome rules play (with_steps script script.steps values) received drawn_again end_again

-- the results of prover and verifier are of one run
abbrev pub AreOfOneRun : {Su F EF U O C K Ac D G It St Sy S Symbol : Type 0} (rules : Rules S Symbol It F EF O Ac)
    (script : Run (script.Step Su F EF U O C K Ac D G It St Sy) F EF S) (sent : List (Value F EF)) → (C → S) →
    Proved Su F EF U O C K Ac D G It St Sy → Verified Su F EF U O C K Ac D G It St Sy → Type 0
AreOfOneRun rules script sent state proved verified = PlaysOneRun rules (play_of rules) script sent proved.narg.items
    proved.witnesses.items proved.carried.items (challenges_of proved.challenges.items) (state proved.challenger)
    (values_received verified.received.items) (challenges_of verified.challenges.items) (state verified.challenger)

-- A verifier accepts what a prover returned. With some received values, it drew these challenges and ends with this
-- challenger.
pub record IsAcceptedProof {Su F EF U O C K Ac D G It St Sy S Symbol : Type 0} (rules : Rules S Symbol It F EF O Ac)
    (script : Run (script.Step Su F EF U O C K Ac D G It St Sy) F EF S) (state : C → S)
    (proved : Proved Su F EF U O C K Ac D G It St Sy) (drawn : List (Drawn Su F EF U O C K Ac D G It St Sy))
    (end : C) : Type 0 where
  pub received : List (Value F EF)
  pub accepts : Accepts rules (play_of rules) script proved.narg.items proved.carried.items received
      (challenges_of drawn) (state end)
