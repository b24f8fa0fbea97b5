use Rattle.std.proofs.Common.{◌≡◌, ℕ, ◌<◌, length, map, slice_index_or}
use Rattle.p3_symmetric.specs.Turn.{turned_cell}
use Rattle.p3_lanes.proofs.turn_in_lanes.TurnLanePermutation.permute_lanes.Given as goal

-- each cell so far is the turned one, in each lane
abbrev pub invariant-loop-i : goal.invariant-loop-i
invariant-loop-i g l =
    let r = g.F.PrimeCharacteristicRing.residues in
    let lane = g.F.Packing.PackedValue.in_lane in
    (length l.state ≡ g.row.WIDTH)
    × ((j : ℕ) → j < l.i → (m : ℕ) → m < g.F.Packing.PackedValue.WIDTH
    → slice_index_or (map (lane m) l.state) j (r.of 0) ≡ turned_cell r g.row.K g.row.WIDTH (map (lane m) l.old) j)
    × (length l.old ≡ g.row.WIDTH)
