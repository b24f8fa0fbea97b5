use Rattle.std.specs.Prelude.{◌≡◌, ℕ, ◌*◌, ◌%◌, ◌<◌, length, slice_index}
use Rattle.p3_lanes.proofs.lane_numbers.single_products.Given as goal

-- all lanes are there, and each so far has the product
abbrev pub invariant-lanes : goal.invariant-lanes
invariant-lanes g l =
    (length l.products ≡ g.row.N)
    × ((i : ℕ) → i < l.l → slice_index l.products i ≡ slice_index l.x i * slice_index l.y i % l.order)
