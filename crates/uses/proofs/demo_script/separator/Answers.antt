use Rattle.std.proofs.{Common.{ap, ◌∙◌}, lemmas.Result.IfOk-weaker}
use Rattle.p3_challenger.specs.{PatternSteps.steps_of}
use Rattle.uses.proofs.demo_script.separator.Goals as goal

pub returns-clause-named : goal.returns-clause-named
returns-clause-named c =
    IfOk-weaker c.new-2.result _ _ (λ made is. (ap (λ s. s.version) is, ap (λ s. s.name) is)) c.new-2.ensures.ok

pub returns-clause-pattern : goal.returns-clause-pattern
returns-clause-pattern c =
    IfOk-weaker c.new-2.result _ _ (λ made is. (
      c.new.result,
      _,
      c.steps.ensures.steps,
      ap (λ s. steps_of s.pattern) is ∙ c.in_ok-pattern.ensures.ok,
    )) c.new-2.ensures.ok
