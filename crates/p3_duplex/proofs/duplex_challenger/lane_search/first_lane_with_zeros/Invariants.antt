use Rattle.std.proofs.Common.{ℕ, ◌<◌}
use Rattle.p3_duplex.specs.LaneSearch.{LanePasses}
use Rattle.p3_duplex.proofs.duplex_challenger.lane_search.first_lane_with_zeros.Given as goal

-- no lane so far passes
abbrev pub invariant-lanes : goal.invariant-lanes
invariant-lanes g l = (k : ℕ) → k < l.lane
    → ¬ (LanePasses g.F.PrimeCharacteristicRing.residues g.F.Packing.PackedValue.in_lane l.bits l.given k)
