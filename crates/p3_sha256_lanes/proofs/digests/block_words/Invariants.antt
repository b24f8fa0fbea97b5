use Rattle.std.proofs.Common.{◌≡◌, ◌*◌, ◌+◌, ◌<◌, ℕ, length, slice_range}
use Rattle.sha2.specs.Sha256.{padded_message, word_at}
use Rattle.p3_sha256_lanes.specs.Lanes.{word_in}
use Rattle.p3_sha256_lanes.proofs.digests.block_words.Given as goal

-- the words so far are those of the block
abbrev pub invariant-whole : goal.invariant-whole
invariant-whole g =
    (length g.words ≡ 16)
    × ((lane : ℕ) → lane < 4 →
    let padded = padded_message (slice_range g.messages (lane * g.each) (lane * g.each + g.each)) in
    (i : ℕ) → i < g.i → word_in lane g.words i ≡ word_at padded (64 * g.index + 4 * i))

-- the words so far are those of the block
abbrev pub invariant-padded : goal.invariant-padded
invariant-padded g =
    (length g.words ≡ 16)
    × ((lane : ℕ) → lane < 4 →
    let padded = padded_message (slice_range g.messages (lane * g.each) (lane * g.each + g.each)) in
    (i : ℕ) → i < g.i → word_in lane g.words i ≡ word_at padded (64 * g.index + 4 * i))
