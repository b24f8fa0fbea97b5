use Rattle.std.specs.Prelude.{true}
use Rattle.p3_step_laws.proofs.{LimitLaws.{drawing_list-tells, rejecting-tells}, OneReason.short-one_reason}
use Rattle.p3_step_laws.proofs.reasons.uniform_draws_are_refused_for_one_reason.Goals as goal

pub returns-clause-list : goal.returns-clause-list
returns-clause-list g c = λ step width n.
    search (short-one_reason, drawing_list-tells, (g.met.C.CanSampleUniformBits.draws_uniform true width).draws)

pub returns-clause-rejecting : goal.returns-clause-rejecting
returns-clause-rejecting g c = λ step width rule limit n.
    search (short-one_reason, rejecting-tells, (g.met.C.CanSampleUniformBits.draws_uniform true width).draws)
