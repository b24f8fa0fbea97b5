use mir.Syntax.{w32}
use mir.Val.{Fits}
use Rattle.std.proofs.Common.{arith}
use Rattle.std.proofs.lemmas.Simd.{Each1-get_or}
use Rattle.p3_lanes.proofs.LaneSums.{reduced_in_lane}
use Rattle.p3_lanes.proofs.lane_numbers.reduced_once.Goals as goal

pub returns : goal.returns
returns g c = λ l lt.
    reduced_in_lane w32 c.args.order c.ranges.order.fits g.row.N c.args.x c.fits-x.0 l lt
    (Each1-get_or (Fits w32) c.args.x l 0 (omega (arith, lt, c.fits-x.0)) c.fits-x.1).fits
    (c.requires l lt)
