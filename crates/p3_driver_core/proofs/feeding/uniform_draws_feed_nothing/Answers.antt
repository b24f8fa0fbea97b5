use Rattle.std.proofs.Common.{true}
use Rattle.p3_driver_core.specs.FeedingLaws.{drawing_list-draws, drawing_rejecting-draws}
use Rattle.p3_driver_core.proofs.feeding.uniform_draws_feed_nothing.Goals as goal

pub returns-clause-list : goal.returns-clause-list
returns-clause-list g c = λ width n. drawing_list-draws g.C.Sponge.next
    (g.C.CanSampleUniformBits.uniform true width).draw (g.met.C.CanSampleUniformBits.draws_uniform true width).draws n

pub returns-clause-rejecting : goal.returns-clause-rejecting
returns-clause-rejecting g c = λ width rule limit n.
    drawing_rejecting-draws g.C.Sponge.next (g.C.CanSampleUniformBits.uniform true width).draw
    (g.met.C.CanSampleUniformBits.draws_uniform true width).draws rule limit n
