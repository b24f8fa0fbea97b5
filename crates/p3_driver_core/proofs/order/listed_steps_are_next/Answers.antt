use Rattle.p3_driver_core.specs.TranscriptLaws.{listed-next, next-first, next-then}
use Rattle.p3_driver_core.proofs.order.listed_steps_are_next.Goals as goal

pub returns-clause-listed : goal.returns-clause-listed
returns-clause-listed c = λ before steps after. listed-next steps before after

pub returns-clause-first : goal.returns-clause-first
returns-clause-first c = next-first

pub returns-clause-others : goal.returns-clause-others
returns-clause-others c = next-then
