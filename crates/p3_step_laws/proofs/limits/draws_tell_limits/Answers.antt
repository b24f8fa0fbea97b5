use Rattle.std.proofs.Common.{rules}
use Rattle.p3_step_laws.proofs.LimitLaws.{drawing_list-tells, rejecting-tells}
use Rattle.p3_step_laws.proofs.limits.draws_tell_limits.Goals as goal

pub returns : goal.returns
returns g c = search (rules, drawing_list-tells, rejecting-tells, g.met.Cdc.Codec.is_codec.samples)
