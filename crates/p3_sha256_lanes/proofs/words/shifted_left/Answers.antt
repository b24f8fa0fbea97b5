use Rattle.std.proofs.Common.{◌∙◌, ap, arith, slice_index}
use Rattle.std.proofs.lemmas.Simd.{shifts_fit_splat, zip2_splat}
use Rattle.std.proofs.lemmas.List.{get_or-map}
use Rattle.p3_sha256_lanes.proofs.words.shifted_left.Goals as goal

pub overflow_shl-result : goal.overflow_shl-result
overflow_shl-result c = shifts_fit_splat 32 c.args.x 4 c.args.bits c.requires

pub returns : goal.returns
returns c = λ lane is_lane.
    ap (λ words. slice_index words lane) (zip2_splat _ c.args.x 4 c.args.bits c.fits-x.0)
    ∙ get_or-map _ c.args.x lane 0 0 (omega (arith, is_lane, c.fits-x.0))
