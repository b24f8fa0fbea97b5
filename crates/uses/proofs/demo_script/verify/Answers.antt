use Rattle.std.proofs.lemmas.Result.{IfOk-weaker, IfErr-weaker}
use Rattle.uses.proofs.demo_script.verify.Goals as goal

pub returns-clause-accepted : goal.returns-clause-accepted
returns-clause-accepted c =
    IfOk-weaker c.verify.result _ _ (λ verified accepted. (_, c.steps-steps.ensures.steps, accepted))
    (rw c.challenger.ensures at c.verify.ensures.accepted)

pub returns-clause-refused : goal.returns-clause-refused
returns-clause-refused c =
    IfErr-weaker c.verify.result _ _ (λ fault refused. (_, c.steps-steps.ensures.steps, refused))
    (rw c.challenger.ensures at c.verify.ensures.refused)
