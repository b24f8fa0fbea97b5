use Rattle.std.proofs.Common.{ap, ◌∙◌, arith}
use Rattle.sha2.specs.Sha256.{rounds, schedule}
use Rattle.p3_sha256_lanes.proofs.compression.four_rounds.Goals as goal

pub returns : goal.returns
returns c = λ lane is_lane block h is held.
    let after = rounds h (schedule block 48) in
    let s1 = c.schedule_round-variables.ensures lane is_lane block h is held in
    let s2 = c.schedule_round-variables-2.ensures lane is_lane block h is s1 in
    let s3 = c.schedule_round-variables-3.ensures lane is_lane block h is (s2 ∙ ap after (omega arith)) in
    c.schedule_round.ensures lane is_lane block h is (s3 ∙ ap after (omega arith)) ∙ ap after (omega arith)
