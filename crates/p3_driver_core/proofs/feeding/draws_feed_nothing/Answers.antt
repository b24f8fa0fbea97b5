use Rattle.p3_driver_core.specs.FeedingLaws.{drawing-draws, drawing_list-draws, drawing_rejecting-draws}
use Rattle.p3_driver_core.proofs.feeding.draws_feed_nothing.Goals as goal

pub returns : goal.returns
returns g c = record {
  value = drawing-draws g.C.Sponge.next g.Cdc.Codec.sampling g.met.Cdc.Codec.is_codec.samples;
  list = λ n. drawing_list-draws g.C.Sponge.next g.Cdc.Codec.sampling g.met.Cdc.Codec.is_codec.samples n;
  rejecting = λ rule limit n. drawing_rejecting-draws g.C.Sponge.next g.Cdc.Codec.sampling
      g.met.Cdc.Codec.is_codec.samples rule limit n;
}
