use Rattle.std.proofs.Common.{◌≡◌, ◌<◌, ◌≤◌, ℕ, map}
use Rattle.p3_lanes.proofs.lane_permutation.permute_each_lane.Given as goal

-- each lane so far is permuted, and the others are as they were
abbrev pub invariant-loop-lane : goal.invariant-loop-lane
invariant-loop-lane g l =
    let in_lane = g.F.Packing.PackedValue.in_lane in
    let count = g.F.Packing.PackedValue.WIDTH in
    ((m : ℕ) → m < count → m < l.lane
    → map (in_lane m) l.state ≡ g.P.CryptographicPermutation.permutation l.permutation (map (in_lane m) l.fn.state))
    × ((m : ℕ) → m < count → l.lane ≤ m → map (in_lane m) l.state ≡ map (in_lane m) l.fn.state)
