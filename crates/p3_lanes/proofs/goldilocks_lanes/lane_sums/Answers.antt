use mir.Syntax.{w64}
use Rattle.std.proofs.Common.{lit<}
use Rattle.p3_lanes.proofs.LaneSums.{sum_in_lane}
use Rattle.p3_goldilocks.specs.GoldilocksResidues.{order}
use Rattle.p3_lanes.proofs.goldilocks_lanes.lane_sums.Goals as goal

pub returns : goal.returns
returns c = sum_in_lane w64 order (lit< tt) 4 c.args.x c.args.y c.fits-x.0 c.fits-y.0 c.requires.left c.requires.right
