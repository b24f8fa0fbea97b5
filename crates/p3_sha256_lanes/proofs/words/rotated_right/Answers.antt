use Rattle.std.proofs.Common.{◌≡◌, ℕ, ◌-◌, ◌*◌, ◌/◌, ◌%◌, ◌^◌, bit_or, slice_index, sym, arith}
use Rattle.p3_sha256_lanes.proofs.words.rotated_right.Goals as goal

pub returns : goal.returns
returns c = λ lane is_lane.
    let x : ℕ = slice_index c.args.x lane in
    let at : c.args.bits % 32 ≡ c.args.bits = omega arith in
    let up : (32 - c.args.bits % 32) % 32 ≡ 32 - c.args.bits = omega arith in
    rw (c.or.ensures lane is_lane, c.shifted_right.ensures lane is_lane, c.shifted_left.ensures lane is_lane)
    (λ i. bit_or (x / 2 ^ sym at i) (x * 2 ^ sym up i % 2 ^ 32))
