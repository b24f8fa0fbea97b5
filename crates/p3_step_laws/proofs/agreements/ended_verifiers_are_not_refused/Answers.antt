use Rattle.p3_step_laws.specs.CompletenessLaws.{reading-ends}
use Rattle.p3_step_laws.proofs.agreements.ended_verifiers_are_not_refused.Goals as goal

pub returns : goal.returns
returns g c = reading-ends
