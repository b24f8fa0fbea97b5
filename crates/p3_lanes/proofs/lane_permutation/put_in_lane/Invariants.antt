use Rattle.std.proofs.Common.{◌≡◌, ◌<◌, ℕ, map, length, slice_index_or}
use Rattle.p3_lanes.proofs.lane_permutation.put_in_lane.Given as goal

-- each cell so far has the new element in the lane, and all others are as they were
abbrev pub invariant-loop-i : goal.invariant-loop-i
invariant-loop-i g l =
    let zero = g.F.PrimeCharacteristicRing.residues.of 0 in
    let in_lane = g.F.Packing.PackedValue.in_lane in
    (length l.state ≡ g.row.WIDTH) × (length l.cells ≡ g.row.WIDTH)
    × ((j : ℕ) → j < l.i → slice_index_or (map (in_lane l.lane) l.state) j zero ≡ slice_index_or l.cells j zero)
    × ((m : ℕ) → m < g.F.Packing.PackedValue.WIDTH → (m ≡ l.lane → ⊥) → map (in_lane m) l.state ≡ map (in_lane m) l.fn.state)
