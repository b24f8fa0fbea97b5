use Rattle.tealmuze_live.proofs.Left.{taking_told}
use Rattle.tealmuze_live.proofs.verifier.Verifier.play.Goals as goal

-- the step is played or refused
pub returns-clause-ok : goal.returns-clause-ok
returns-clause-ok g c = taking_told c.play_step.result.1 _ _ _ (λ told tells. record {
  step = c.in-Ok.asked.step;
  witness = c.in-Ok.asked.witness;
  asked = c.in-Ok.ensures.asked;
  told_is = tells;
}) c.play_step.ensures.ok
