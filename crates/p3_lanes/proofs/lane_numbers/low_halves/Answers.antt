use Rattle.std.proofs.Common.{◌≡◌, ℕ, ◌<◌, ◌∙◌, ap, arith, map, length, replicate, slice_index, bit_and, Fits, w32}
use Rattle.std.proofs.lemmas.Simd.{Each1-all, Each1-zip2, Each2-splat, zip2_splat}
use Rattle.std.proofs.lemmas.List.{get_or-map, length-map}
use Rattle.std.proofs.lemmas.Nat.{and_mask, and_le_r}
use Rattle.std.specs.Simd.Lanes.{zip2}
use Rattle.p3_lanes.proofs.lane_numbers.low_halves.Goals as goal

pub overflow_cast-result : goal.overflow_cast-result
overflow_cast-result g c =
    Each1-zip2 bit_and (Fits w32) c.args.x (replicate g.row.N 4294967295)
    (Each2-splat (λ a b. Fits w32 (bit_and a b)) c.args.x g.row.N 4294967295
    (Each1-all (λ a. Fits w32 (bit_and a 4294967295)) (λ a. record { fits = omega (arith, and_le_r a 4294967295) }) c.args.x))

pub returns : goal.returns
returns g c = λ l lt.
    let masked = zip2 bit_and c.args.x (replicate g.row.N 4294967295) in
    let is : masked ≡ map (λ a. bit_and a 4294967295) c.args.x = zip2_splat bit_and c.args.x g.row.N 4294967295 c.fits-x.0 in
    let inside : l < length c.args.x = omega (arith, lt, c.fits-x.0) in
    let long : length masked ≡ length c.args.x = ap length is ∙ length-map c.args.x (λ a. bit_and a 4294967295) in
    get_or-map (λ (a : ℕ). a) masked l 0 0 (omega (arith, inside, long))
    ∙ ap (λ ns. slice_index ns l) is
    ∙ get_or-map (λ a. bit_and a 4294967295) c.args.x l 0 0 inside
    ∙ and_mask (slice_index c.args.x l) 32
