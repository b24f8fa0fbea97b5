use Rattle.std.specs.Prelude.{ℕ, ◌<◌}
use Rattle.p3_lanes.proofs.packed_value.PackedValue.from_fn.Given as goal

-- each lane so far has what the function gives
abbrev pub invariant-lanes : goal.invariant-lanes
invariant-lanes g l = (i : ℕ) → i < l.l → g.G.Fn.post l.element (i, tt) (g.Self.PackedValue.in_lane i l.lanes)
