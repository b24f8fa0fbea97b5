use Rattle.std.proofs.Common.{ℕ, ◌*◌, ◌%◌, ◌<◌, ◌∙◌, ap, arith, map, length, slice_index}
use Rattle.std.proofs.lemmas.Simd.{get_or-zip2, zip2_splat}
use Rattle.std.proofs.lemmas.List.{get_or-map, length-map}
use Rattle.std.specs.Simd.Lanes.{zip2}
use Rattle.p3_lanes.proofs.LaneSums.{wrapped_difference}
use Rattle.p3_lanes.proofs.lane_numbers.without_multiples.Goals as goal

pub returns : goal.returns
returns g c = λ l lt.
    let multiple = λ (n : ℕ). n * c.args.order % 4294967296 in
    let long = length-map c.args.counts multiple in
    let inside : l < length c.args.counts = omega (arith, lt, c.fits-counts.0) in
    ap (λ ns. slice_index (zip2 (wrapped_difference 4294967296) c.args.x ns) l)
    (zip2_splat _ c.args.counts g.row.N c.args.order c.fits-counts.0)
    ∙ get_or-zip2 (wrapped_difference 4294967296) c.args.x (map multiple c.args.counts) l 0 0 0 (omega (arith, lt, c.fits-x.0))
    (omega (arith, inside, long))
    ∙ ap (wrapped_difference 4294967296 (slice_index c.args.x l)) (get_or-map multiple c.args.counts l 0 0 inside)
