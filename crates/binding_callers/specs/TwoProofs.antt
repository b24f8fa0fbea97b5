-- Two accepted proofs of one script.
use Rattle.std.specs.Prelude.{◌≡◌, ℕ, List}
use Rattle.p3_challenger.specs.{AnswersBound.AgreeButHints, Fronts.{Run, symbols}, Rules.Rules, Scripts.play_of}
use Rattle.p3_challenger.specs.{Step.Step, Verdicts.with_steps, Verified.Verified, VerifierAnswers.IsVerifiedScript}

-- Both are accepted, and where their runs fed the same symbols, the answers agree but for hints.
pub record AreTwoProofs {Su F EF U O C K Ac D G It S Symbol : Type 0} (rules : Rules S Symbol It F EF O Ac)
    (script : Run (Step Su F EF U O C K Ac D G It S Symbol) F EF S) (state : C → S) (carried : List F)
    (bytes others : List ℕ) (v w : Verified Su F EF U O C K Ac D G It S Symbol) : Type 0 where
  pub first : IsVerifiedScript rules script bytes carried state v
  pub second : IsVerifiedScript rules script others carried state w
  pub agree : symbols rules (play_of rules) (with_steps script script.steps first.values)
      ≡ symbols rules (play_of rules) (with_steps script script.steps second.values) →
      AgreeButHints Su U C K D G It S Symbol rules state script v w
