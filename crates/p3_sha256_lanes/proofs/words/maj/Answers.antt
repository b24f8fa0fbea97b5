use Rattle.std.proofs.Common.{slice_index}
use Rattle.p3_sha256_lanes.proofs.ChMaj.{maj_short}
use Rattle.p3_sha256_lanes.proofs.words.maj.Goals as goal

pub returns : goal.returns
returns c = λ lane is_lane.
    rw (
      c.xor-3.ensures lane is_lane,
      c.and.ensures lane is_lane,
      c.xor.ensures lane is_lane,
      c.xor-2.ensures lane is_lane,
    )
    (maj_short (slice_index c.args.x lane) (slice_index c.args.y lane) (slice_index c.args.z lane))
