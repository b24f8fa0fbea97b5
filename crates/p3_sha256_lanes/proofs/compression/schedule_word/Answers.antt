use Rattle.std.proofs.Common.{◌-◌, arith, refl}
use Rattle.p3_sha256_lanes.proofs.InLanes.{word_of_lane}
use Rattle.p3_sha256_lanes.proofs.compression.schedule_word.Goals as goal

pub returns : goal.returns
returns c = λ lane is_lane.
    let words = c.args.schedule.now in
    rw (
      word_of_lane lane words (c.args.t - 2) (omega arith),
      word_of_lane lane words (c.args.t - 7) (omega arith),
      word_of_lane lane words (c.args.t - 15) (omega arith),
      word_of_lane lane words (c.args.t - 16) (omega arith),
      c.sum-3.ensures lane is_lane,
      c.sum-2.ensures lane is_lane,
      c.sum.ensures lane is_lane,
      c.small_sigma1-near.ensures lane is_lane,
      c.small_sigma0-far.ensures lane is_lane,
    )
    refl
