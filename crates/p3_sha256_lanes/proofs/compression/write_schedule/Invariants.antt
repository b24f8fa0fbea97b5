use Rattle.std.proofs.Common.{◌≡◌, ◌*◌, ◌<◌, ℕ, List, length, slice_index}
use Rattle.sha2.specs.Sha256.{schedule, word_at}
use Rattle.p3_sha256_lanes.specs.Lanes.{words_in}
use Rattle.p3_sha256_lanes.proofs.compression.write_schedule.Given as goal

-- the words so far are the block's
abbrev pub invariant-block : goal.invariant-block
invariant-block g =
    (length g.schedule ≡ 64)
    × ((lane : ℕ) → (k : ℕ) → k < g.i → slice_index (words_in lane g.schedule) k ≡ slice_index (words_in lane g.fn.words) k)

-- the words so far are the schedule's
abbrev pub invariant-following : goal.invariant-following
invariant-following g =
    (length g.schedule ≡ 64)
    × ((lane : ℕ) → lane < 4 → (block : List ℕ)
    → ((i : ℕ) → i < 16 → slice_index (words_in lane g.fn.words) i ≡ word_at block (4 * i))
    → (k : ℕ) → k < 4 * g.turn → slice_index (words_in lane g.schedule) k ≡ slice_index (schedule block 48) k)
