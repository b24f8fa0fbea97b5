use Rattle.p3_driver_core.specs.TranscriptLaws.{finished-refused, finished-ends}
use Rattle.p3_driver_core.proofs.order.finished_players_refuse.Goals as goal

pub returns-clause-step : goal.returns-clause-step
returns-clause-step c = finished-refused

pub returns-clause-end : goal.returns-clause-end
returns-clause-end c = finished-ends
