use Rattle.std.proofs.Common.{◌≡◌, ◌*◌, ◌+◌, ◌/◌, ◌<◌, ℕ, length, slice_range}
use Rattle.sha2.specs.Sha256.{hash_after, initial_hash_256, padded_message}
use Rattle.p3_sha256_lanes.specs.Lanes.{state_in}
use Rattle.p3_sha256_lanes.proofs.digests.four_digests.Given as goal

-- each lane holds the hash value of its message after the blocks so far
abbrev pub invariant-each_block : goal.invariant-each_block
invariant-each_block g =
    let each = length g.messages / 4 in
    (lane : ℕ) → lane < 4 →
    let padded = padded_message (slice_range g.messages (lane * each) (lane * each + each)) in
    state_in lane g.hash_values ≡ hash_after initial_hash_256 padded g.index
