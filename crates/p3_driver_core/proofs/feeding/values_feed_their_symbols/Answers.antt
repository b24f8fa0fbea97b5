use Rattle.p3_driver_core.specs.FeedingLaws.{observing-feeds, observing_list-feeds}
use Rattle.p3_driver_core.proofs.feeding.values_feed_their_symbols.Goals as goal

pub returns : goal.returns
returns g c = record {
  value = λ x. observing-feeds g.C.Sponge.fed g.C.Sponge.fed_nothing g.C.Sponge.fed_more g.Cdc.Codec.observation
      g.met.Cdc.Codec.is_codec.observes x;
  list = λ xs. observing_list-feeds g.C.Sponge.fed g.C.Sponge.fed_nothing g.C.Sponge.fed_more
      g.Cdc.Codec.observation g.met.Cdc.Codec.is_codec.observes xs;
}
