use Rattle.p3_driver_core.specs.FeedingLaws.{observing-feeds}
use Rattle.p3_driver_core.proofs.feeding.opaque_values_feed_their_symbols.Goals as goal

pub returns : goal.returns
returns g c = λ x. observing-feeds
    g.C.Sponge.fed g.C.Sponge.fed_nothing g.C.Sponge.fed_more g.C.CanObserve.observation g.met.C.CanObserve.observes x
