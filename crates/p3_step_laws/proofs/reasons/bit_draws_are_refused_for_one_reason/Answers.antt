use Rattle.p3_step_laws.proofs.{LimitLaws.drawing_list-tells, OneReason.short-one_reason}
use Rattle.p3_step_laws.proofs.reasons.bit_draws_are_refused_for_one_reason.Goals as goal

pub returns : goal.returns
returns g c = λ step width n.
    search (short-one_reason, drawing_list-tells, g.met.C.CanSampleBits.samples_bits width)
