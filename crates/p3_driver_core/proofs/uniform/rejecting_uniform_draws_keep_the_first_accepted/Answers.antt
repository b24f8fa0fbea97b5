use Rattle.std.proofs.Common.{true}
use Rattle.p3_driver_core.specs.RejectingLaws.{keeps-first}
use Rattle.p3_driver_core.proofs.uniform.rejecting_uniform_draws_keep_the_first_accepted.Goals as goal

pub returns : goal.returns
returns g c = λ width rule. keeps-first (g.C.CanSampleUniformBits.uniform true width).draw rule
