use Rattle.std.proofs.Common.{ℕ, [], ◌∷◌, ◌≡◌, slice_index, replicate}
use Rattle.std.proofs.lemmas.List.{get_or-replicate}
use Rattle.p3_sha256_lanes.proofs.digests.initial_hash_values.Goals as goal

pub returns : goal.returns
returns c = λ lane is_lane.
    let each : (word : ℕ) → slice_index (replicate 4 word) lane ≡ word =
    λ word. get_or-replicate 4 lane word 0 is_lane in
    λ i.
    each 0x6A09E667 i ∷ each 0xBB67AE85 i ∷ each 0x3C6EF372 i ∷ each 0xA54FF53A i
    ∷ each 0x510E527F i ∷ each 0x9B05688C i ∷ each 0x1F83D9AB i ∷ each 0x5BE0CD19 i ∷ []
