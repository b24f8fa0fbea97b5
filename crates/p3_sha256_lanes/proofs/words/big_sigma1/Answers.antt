use Rattle.std.proofs.Common.{refl}
use Rattle.p3_sha256_lanes.proofs.words.big_sigma1.Goals as goal

pub returns : goal.returns
returns c = λ lane is_lane.
    rw (
      c.xor-2.ensures lane is_lane,
      c.xor.ensures lane is_lane,
      c.rotated_right.ensures lane is_lane,
      c.rotated_right-2.ensures lane is_lane,
      c.rotated_right-3.ensures lane is_lane,
    )
    refl
