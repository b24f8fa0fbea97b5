-- Laws of every step of every script of a suite.
use Rattle.p3_fs_core.specs.StepFits.{FitsLength}
use Rattle.p3_runs.specs.{Rules.Rules, Faults.{ProofsTellOneFault, ProvingsTellOneFault}}
use Rattle.p3_runs.specs.Stepping.{IsCanonical, IsDetermined, IsTakenWherePossible, IsSentWherePossible, RefuseForOneReason}
use Rattle.p3_script.specs.{Scripts.play_of, ScriptRefusals.sides_of}
use Rattle.p3_script.specs.declared.steps.Step as script

module _ {S Symbol I F EF O Ac : Type 0} (Su U C K D G It St Sy : Type 0) (rules : Rules S Symbol I F EF O Ac) where
  -- the bytes and the carried witness of a step determine its value, where a pattern can have the
  -- step's length
  abbrev pub AreAllCanonical : Type 0
  AreAllCanonical =
      (x : script.Step Su F EF U O C K Ac D G It St Sy) → FitsLength (play_of rules x).interaction.length →
      IsCanonical (play_of rules x)

  -- on the prover's side, what is sent determines a step's value, given that its witness is the
  -- least
  abbrev pub AreAllDetermined : Type 0
  AreAllDetermined = (x : script.Step Su F EF U O C K Ac D G It St Sy) → IsDetermined (play_of rules x)

  -- each side refuses an admitted step that may be played only when out of memory
  abbrev pub AreTakenWherePossible : Type 0
  AreTakenWherePossible =
      (x : script.Step Su F EF U O C K Ac D G It St Sy) → FitsLength (play_of rules x).interaction.length →
      (play_of rules x).admitted → IsTakenWherePossible (play_of rules x) (sides_of rules x)

  abbrev pub AreSentWherePossible : Type 0
  AreSentWherePossible =
      (x : script.Step Su F EF U O C K Ac D G It St Sy) → FitsLength (play_of rules x).interaction.length →
      (play_of rules x).admitted → IsSentWherePossible (play_of rules x) (sides_of rules x)

  -- an admitted step is refused for one reason
  abbrev pub AreRefusedForOneReason : Type 0
  AreRefusedForOneReason =
      (x : script.Step Su F EF U O C K Ac D G It St Sy) → (play_of rules x).admitted →
      RefuseForOneReason (sides_of rules x)

  -- whole scripts are refused for one fault, whether to a verifier or to a prover
  abbrev pub ProofsHaveOneFault : Type 0
  ProofsHaveOneFault = ProofsTellOneFault rules
      (λ (x : script.Step Su F EF U O C K Ac D G It St Sy). play_of rules x) (sides_of rules)

  abbrev pub ProvingsHaveOneFault : Type 0
  ProvingsHaveOneFault =
      ProvingsTellOneFault rules (λ (x : script.Step Su F EF U O C K Ac D G It St Sy). play_of rules x)
      (sides_of rules)
