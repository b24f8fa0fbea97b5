use Rattle.std.proofs.Common.{◌≡◌, ◌*◌, length, take}
use Rattle.sha2.specs.Sha256.{digest_bytes}
use Rattle.p3_sha256_lanes.specs.Lanes.{state_in}
use Rattle.p3_sha256_lanes.proofs.digests.digest_in_lane.Given as goal

-- the bytes of the words so far are written
abbrev pub invariant-words : goal.invariant-words
invariant-words g =
    (length g.digest ≡ 32)
    × (take (4 * g.i) g.digest ≡ digest_bytes (state_in g.lane g.hash_values) g.i)
