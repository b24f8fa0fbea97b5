use Rattle.p3_step_laws.proofs.{LimitLaws.{drawing_list-tells, rejecting-tells}, OneReason.short-one_reason}
use Rattle.p3_step_laws.proofs.reasons.draws_are_refused_for_one_reason.Goals as goal

pub returns-clause-list : goal.returns-clause-list
returns-clause-list g c = search (short-one_reason, drawing_list-tells, g.met.Cdc.Codec.is_codec.samples)

pub returns-clause-rejecting : goal.returns-clause-rejecting
returns-clause-rejecting g c = search (short-one_reason, rejecting-tells, g.met.Cdc.Codec.is_codec.samples)
