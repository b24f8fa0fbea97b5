use Rattle.std.proofs.Common.{ℕ, List, length}
use Rattle.p3_fs_core.specs.{BigEndian.count_bytes, Alphabet.alphabet_of}
use Rattle.p3_driver_core.specs.{Effects.observing_bytes, FeedingLaws.{observing_bytes-feeds, in_sequence-feeds}}
use Rattle.p3_driver_core.{specs.Feeding.Feeds, proofs.feeding.bytes_feed_their_symbols.Given.Over}
use Rattle.p3_driver_core.proofs.feeding.bytes_feed_their_symbols.Goals as goal

bytes-feed : (g : Over) (bytes : List ℕ) → Feeds g.C.Sponge.fed (observing_bytes
    (alphabet_of g.U.Unit.items g.U.Unit.is_too_long g.C.CanObserve.observation g.C.CanObserve.slice_may_leave) bytes)
bytes-feed g bytes = observing_bytes-feeds g.C.Sponge.fed g.C.Sponge.fed_nothing g.C.Sponge.fed_more
    (alphabet_of g.U.Unit.items g.U.Unit.is_too_long g.C.CanObserve.observation g.C.CanObserve.slice_may_leave)
    g.met.C.CanObserve.observes g.met.C.CanObserve.slice_leaves bytes

pub returns : goal.returns
returns g c = record {
  fixed = bytes-feed g;
  counted = λ max bytes. in_sequence-feeds g.C.Sponge.fed g.C.Sponge.fed_nothing g.C.Sponge.fed_more _ _
      (bytes-feed g (count_bytes max (length bytes))) (bytes-feed g bytes);
}
