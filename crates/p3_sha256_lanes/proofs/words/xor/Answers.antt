use Rattle.std.proofs.Common.{arith}
use Rattle.std.proofs.lemmas.Simd.{get_or-zip2}
use Rattle.p3_sha256_lanes.proofs.words.xor.Goals as goal

pub returns : goal.returns
returns c = λ lane is_lane.
    get_or-zip2 _ c.args.x c.args.y lane 0 0 0
    (omega (arith, is_lane, c.fits-x.0)) (omega (arith, is_lane, c.fits-y.0))
