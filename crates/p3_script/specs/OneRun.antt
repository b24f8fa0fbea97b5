-- Each proof is a proof of one run.
use Rattle.std.specs.Prelude.{◌≡◌, ℕ, List}
use Rattle.p3_runs.specs.{Fronts.Run, Plays.Play, Rules.Rules, Values.Value, Verdicts.{IsProof, with_steps}}
use Rattle.p3_script.specs.Scripts.{play_of}
use Rattle.p3_script.specs.declared.steps.Step as script

-- At most one list of values has a finished run with these bytes and carried witnesses. The run is at the steps of a
-- script, under its separator and from its challenger. Any two such runs are equal.
abbrev pub HaveOneRun : {X S Symbol I F EF O Ac : Type 0} → Rules S Symbol I F EF O Ac →
    (X → Play S Symbol F EF O) → Type 0
HaveOneRun {X} {S} {Symbol} {I} {F} {EF} rules play =
    (run : Run X F EF S) (bytes : List ℕ) (carried : List F) (values others : List (Value F EF)) →
    IsProof rules play (with_steps run run.steps values) bytes carried →
    IsProof rules play (with_steps run run.steps others) bytes carried → values ≡ others

module _ {S Symbol I F EF O Ac : Type 0} (Su U C K D G It St Sy : Type 0) (rules : Rules S Symbol I F EF O Ac) where
  -- each proof of a script has one run
  abbrev pub ProofsHaveOneRun : Type 0
  ProofsHaveOneRun = HaveOneRun rules (λ (x : script.Step Su F EF U O C K Ac D G It St Sy). play_of rules x)
