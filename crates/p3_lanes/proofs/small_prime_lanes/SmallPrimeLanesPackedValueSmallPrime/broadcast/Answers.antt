use Rattle.std.proofs.lemmas.Simd.{get_or-replicate}
use Rattle.p3_lanes.proofs.LaneElements.{element_of_its}
use Rattle.p3_lanes.proofs.small_prime_lanes.SmallPrimeLanesPackedValueSmallPrime.broadcast.Goals as goal

pub returns : goal.returns
returns g c =
    λ l lt. element_of_its _ c.args.value _ _ (get_or-replicate g.row.N l _ 0 lt) c.as_canonical_u32.ensures
