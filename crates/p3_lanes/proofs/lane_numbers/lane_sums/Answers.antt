use Rattle.std.proofs.Common.{rules, ◌≡◌, ◌+◌, ◌*◌, ◌%◌, ◌<◌, arith, slice_index}
use Rattle.std.proofs.lemmas.Simd.{get_or-zip2}
use Rattle.std.specs.Simd.Lanes.{zip2}
use Rattle.p3_lanes.proofs.LaneSums.{wrapped_sum}
use Rattle.p3_lanes.proofs.lane_numbers.lane_sums.Goals as goal

pub reduced_once-requires : goal.reduced_once-requires
reduced_once-requires g c = (
  search rules,
  λ l lt.
      let left = c.requires.left l lt in
      let right = c.requires.right l lt in
      let sums = zip2 (wrapped_sum 4294967296) c.args.x c.args.y in
      let is : slice_index sums l ≡ (slice_index c.args.x l + slice_index c.args.y l) % 4294967296 =
      get_or-zip2 (wrapped_sum 4294967296) c.args.x c.args.y l 0 0 0 (omega (arith, lt, c.fits-x.0)) (omega (arith, lt, c.fits-y.0)) in
      let small : slice_index sums l < 2 * c.args.order = omega (arith, is, left, right) in small,
)
