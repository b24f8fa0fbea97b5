use Rattle.std.proofs.Common.{◌≡◌, ℕ, ◌<◌, ◌*◌, List, slice_index}
use Rattle.sha2.specs.Sha256.{rounds, schedule, word_at}
use Rattle.p3_sha256_lanes.specs.Lanes.{state_in, words_in}
use Rattle.p3_sha256_lanes.proofs.compression.compress.Given as goal

-- each lane has the working variables after `8 * turn` rounds of its block
abbrev pub invariant-rounds : goal.invariant-rounds
invariant-rounds g = (lane : ℕ) → lane < 4 → (block : List ℕ)
    → ((i : ℕ) → i < 16 → slice_index (words_in lane g.fn.words) i ≡ word_at block (4 * i))
    → state_in lane g.variables ≡ rounds (state_in lane g.fn.hash_values) (schedule block 48) (8 * g.turn)
