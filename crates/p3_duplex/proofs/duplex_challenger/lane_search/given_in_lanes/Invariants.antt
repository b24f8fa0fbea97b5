use Rattle.std.proofs.Common.{◌≡◌, ℕ, ◌<◌, length, map, slice_index_or}
use Rattle.p3_duplex.proofs.duplex_challenger.lane_search.given_in_lanes.Given as goal

-- each cell so far stands in each lane
abbrev pub invariant-cells : goal.invariant-cells
invariant-cells g l =
    let zero = g.F.PrimeCharacteristicRing.residues.of 0 in
    (length l.lanes ≡ g.row.WIDTH)
    × ((j : ℕ) → j < l.i → (m : ℕ) → m < g.F.Packing.PackedValue.WIDTH
    → slice_index_or (map (g.F.Packing.PackedValue.in_lane m) l.lanes) j zero ≡ slice_index_or l.cells j zero)
    × (length l.cells ≡ g.row.WIDTH)
