use Rattle.std.proofs.Common.{nat_eq}
use Rattle.p3_lanes.proofs.LaneElements.{element_of_either, put_in_lane}
use Rattle.p3_lanes.proofs.small_prime_lanes.SmallPrimeLanesPackedValueSmallPrime.with_lane.Goals as goal

pub returns : goal.returns
returns g c =
    let numbers = c.args.self.numbers in
    λ l lt. element_of_either _ c.args.value (nat_eq l c.args.index) _ _ _
    (put_in_lane g.row.N numbers c.args.self.full c.args.index c.requires _ l) c.as_canonical_u32.ensures
