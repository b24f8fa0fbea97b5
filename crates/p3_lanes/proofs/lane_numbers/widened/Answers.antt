use Rattle.std.proofs.Common.{arith}
use Rattle.std.proofs.lemmas.List.{get_or-map}
use Rattle.p3_lanes.proofs.lane_numbers.widened.Goals as goal

pub returns : goal.returns
returns g c = λ l lt. get_or-map _ c.args.x l 0 0 (omega (arith, lt, c.fits-x.0))
