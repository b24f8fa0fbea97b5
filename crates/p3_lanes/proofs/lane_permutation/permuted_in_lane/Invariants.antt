use Rattle.std.proofs.Common.{◌≡◌, ◌<◌, ℕ, map, length, slice_index_or}
use Rattle.p3_lanes.proofs.lane_permutation.permuted_in_lane.Given as goal

-- each cell so far is that of the lane
abbrev pub invariant-loop-i : goal.invariant-loop-i
invariant-loop-i g l =
    let zero = g.F.PrimeCharacteristicRing.residues.of 0 in
    (length l.cells ≡ g.row.WIDTH) × (length l.state ≡ g.row.WIDTH)
    × ((j : ℕ) → j < l.i → slice_index_or l.cells j zero ≡ slice_index_or (map (g.F.Packing.PackedValue.in_lane l.lane) l.state) j zero)
