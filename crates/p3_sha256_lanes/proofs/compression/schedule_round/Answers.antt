use Rattle.std.proofs.Common.{◌∙◌, sym, arith, slice_index}
use Rattle.sha2.specs.Sha256.{round, round_constants, schedule}
use Rattle.sha2.proofs.Schedule256.{rounds_next}
use Rattle.p3_sha256_lanes.proofs.InLanes.{word_of_lane}
use Rattle.p3_sha256_lanes.proofs.compression.schedule_round.Goals as goal

pub returns : goal.returns
returns c = λ lane is_lane block hash_value is held.
    let t = c.args.t in
    let word = sym (word_of_lane lane c.args.words.now t (omega arith)) ∙ is t c.requires in
    c.round.ensures lane is_lane
    ∙ (λ i. round (held i) (slice_index round_constants t) (word i))
    ∙ sym (rounds_next hash_value (schedule block 48) t)
