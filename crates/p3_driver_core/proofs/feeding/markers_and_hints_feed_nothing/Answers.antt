use Rattle.std.proofs.Common.{refl}
use Rattle.p3_driver_core.specs.FeedingLaws.{untouched-feeds}
use Rattle.p3_driver_core.proofs.feeding.markers_and_hints_feed_nothing.Goals as goal

pub returns : goal.returns
returns g c = record {
  feeds = λ x. untouched-feeds g.C.Sponge.fed g.C.Sponge.fed_nothing g.C.Sponge.fed_more x;
  keeps = λ x s. refl;
  unrefused = λ x e s t h. h;
}
