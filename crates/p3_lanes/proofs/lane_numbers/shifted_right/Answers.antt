use Rattle.std.proofs.Common.{◌∙◌, ap, arith, slice_index}
use Rattle.std.proofs.lemmas.Simd.{shifts_fit_splat, zip2_splat}
use Rattle.std.proofs.lemmas.List.{get_or-map}
use Rattle.p3_lanes.proofs.lane_numbers.shifted_right.Goals as goal

pub overflow_shr-result : goal.overflow_shr-result
overflow_shr-result g c = shifts_fit_splat 64 c.args.x g.row.N c.args.bits c.requires

pub returns : goal.returns
returns g c = λ l lt.
    ap (λ numbers. slice_index numbers l) (zip2_splat _ c.args.x g.row.N c.args.bits c.fits-x.0)
    ∙ get_or-map _ c.args.x l 0 0 (omega (arith, lt, c.fits-x.0))
