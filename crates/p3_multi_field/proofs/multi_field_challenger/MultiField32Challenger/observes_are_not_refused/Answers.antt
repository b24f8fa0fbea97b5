use Rattle.p3_challenger_core.specs.ObservationLaws.{row-not_refused}
use Rattle.p3_multi_field.proofs.multi_field_challenger.MultiField32Challenger.observes_are_not_refused.Goals as goal

pub returns : goal.returns
returns g c = row-not_refused _
