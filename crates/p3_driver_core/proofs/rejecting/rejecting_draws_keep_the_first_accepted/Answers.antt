use Rattle.p3_driver_core.specs.RejectingLaws.{keeps-first}
use Rattle.p3_driver_core.proofs.rejecting.rejecting_draws_keep_the_first_accepted.Goals as goal

pub returns : goal.returns
returns g c = λ rule. keeps-first g.Cdc.Codec.sampling rule
