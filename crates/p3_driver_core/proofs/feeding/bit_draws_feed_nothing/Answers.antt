use Rattle.p3_driver_core.specs.FeedingLaws.{drawing_list-draws}
use Rattle.p3_driver_core.proofs.feeding.bit_draws_feed_nothing.Goals as goal

pub returns : goal.returns
returns g c = λ width n. drawing_list-draws
    g.C.Sponge.next (g.C.CanSampleBits.bits_sampling width) (g.met.C.CanSampleBits.samples_bits width) n
