use Rattle.std.proofs.Common.{◌∙◌, arith}
use Rattle.std.proofs.Math.Nat.{mod-eq_of_lt}
use Rattle.std.proofs.lemmas.Simd.{get_or-zip2}
use Rattle.p3_lanes.proofs.lane_numbers.whole_products.Goals as goal

pub returns : goal.returns
returns g c = λ l lt.
    get_or-zip2 _ c.args.x c.args.y l 0 0 0 (omega (arith, lt, c.fits-x.0)) (omega (arith, lt, c.fits-y.0))
    ∙ mod-eq_of_lt (c.requires l lt)
