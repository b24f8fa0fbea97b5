use mir.Syntax.{w32}
use Rattle.p3_lanes.proofs.LaneSums.{sum_in_lane}
use Rattle.p3_lanes.proofs.lane_numbers.long_sums.Goals as goal

pub returns : goal.returns
returns g c =
    sum_in_lane w32 c.args.order c.ranges.order.fits g.row.N c.args.x c.args.y c.fits-x.0 c.fits-y.0 c.requires.left c.requires.right
