use Rattle.std.proofs.Common.{◌≡◌, ℕ, List, [], ◌∷◌, Some, ◌<◌, ◌*◌, ◌+◌, ◌/◌, ◌∙◌, length, slice_get, slice_range}
use Rattle.std.proofs.Common.{take, drop, sym, ap, arith}
use Rattle.sha2.specs.Sha256.{padded_message, initial_hash_256, hash_after, compress, digest_bytes, sha256}
use Rattle.p3_sha256_lanes.specs.Lanes.{state_in}
use Rattle.p3_sha256_lanes.proofs.HashValues.{hash_after-next}
use Rattle.p3_sha256_lanes.proofs.InLanes.{by_lane, length-message, length-padded}
use Rattle.p3_sha256_lanes.proofs.digests.four_digests.Goals as goal

pub each_block-init : goal.each_block-init
unfolding hash_after
each_block-init c = λ lane is_lane. c.initial_hash_values-hash_values.ensures lane is_lane

pub each_block-preserved : goal.each_block-preserved
each_block-preserved c = λ lane is_lane.
    let each : ℕ = length c.args.messages.now / 4 in
    let padded : List ℕ = padded_message (slice_range c.args.messages.now (lane * each) (lane * each + each)) in
    let next : List ℕ = take 64 (drop (c.each_block.index * 64) padded) in
    c.compress.ensures lane is_lane next (c.block_words.ensures lane is_lane)
    ∙ ap (λ hash_value. compress hash_value next) (c.each_block.invariant lane is_lane)
    ∙ sym (hash_after-next initial_hash_256 padded c.each_block.index)

pub returns : goal.returns
unfolding sha256
returns c =
    let messages : List ℕ = c.args.messages.now in
    let each : ℕ = length messages / 4 in
    let message : ℕ → List ℕ = λ lane. slice_range messages (lane * each) (lane * each + each) in
    let hash_values = c.each_block.hash_values in
    let whole : (lane : ℕ) → lane < 4 → digest_bytes (state_in lane hash_values) 8 ≡ sha256 (message lane) =
    λ lane is_lane.
    let long = length-message messages each (omega arith) lane is_lane in
    let done : c.each_block.index ≡ length (padded_message (message lane)) / 64 =
    omega (arith, length-padded (message lane), long, c.each_block.auto.index-end) in
    ap (λ hash_value. digest_bytes hash_value 8) (rw done at (c.each_block.invariant lane is_lane)) in
    let digests : List (List ℕ) =
    c.digest_in_lane.result ∷ c.digest_in_lane-2.result ∷ c.digest_in_lane-3.result ∷ c.digest_in_lane-4.result ∷ [] in
    by_lane (λ lane. slice_get digests lane ≡ Some (sha256 (message lane)))
    (ap Some (c.digest_in_lane.ensures ∙ whole 0 (omega arith)))
    (ap Some (c.digest_in_lane-2.ensures ∙ whole 1 (omega arith)))
    (ap Some (c.digest_in_lane-3.ensures ∙ whole 2 (omega arith)))
    (ap Some (c.digest_in_lane-4.ensures ∙ whole 3 (omega arith)))
