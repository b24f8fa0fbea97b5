use Rattle.p3_challenger_core.specs.SamplingLaws.{draws-not_refused}
use Rattle.p3_multi_field.proofs.multi_field_challenger.MultiField32Challenger.draws_are_not_refused.Goals as goal

pub returns : goal.returns
returns g c = draws-not_refused _ _
