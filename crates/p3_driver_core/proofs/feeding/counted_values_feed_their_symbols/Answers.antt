use Rattle.std.proofs.Common.{length}
use Rattle.p3_fs_core.specs.{BigEndian.count_bytes, Alphabet.alphabet_of}
use Rattle.p3_driver_core.specs.FeedingLaws.{observing_bytes-feeds, observing_list-feeds, in_sequence-feeds}
use Rattle.p3_driver_core.proofs.feeding.counted_values_feed_their_symbols.Goals as goal

pub returns : goal.returns
returns g c = λ max xs. in_sequence-feeds g.C.Sponge.fed g.C.Sponge.fed_nothing
    g.C.Sponge.fed_more _ _ (observing_bytes-feeds g.C.Sponge.fed g.C.Sponge.fed_nothing g.C.Sponge.fed_more
    (alphabet_of g.U.Unit.items g.U.Unit.is_too_long g.C.CanObserve.observation g.C.CanObserve.slice_may_leave)
    g.met.C.CanObserve.observes g.met.C.CanObserve.slice_leaves (count_bytes max (length xs)))
    (observing_list-feeds g.C.Sponge.fed
    g.C.Sponge.fed_nothing g.C.Sponge.fed_more g.Cdc.Codec.observation g.met.Cdc.Codec.is_codec.observes xs)
