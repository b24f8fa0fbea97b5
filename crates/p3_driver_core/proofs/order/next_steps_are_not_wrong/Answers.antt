use Rattle.p3_driver_core.specs.TranscriptLaws.{next-not_refused, played-ends}
use Rattle.p3_driver_core.proofs.order.next_steps_are_not_wrong.Goals as goal

pub returns-clause-step : goal.returns-clause-step
returns-clause-step c = next-not_refused

pub returns-clause-end : goal.returns-clause-end
returns-clause-end c = played-ends
