-- A permutation for tests: the cells are rotated, and each is increased by its place plus one.
use Rattle.std.specs.{Prelude.{ℕ, ◌+◌, ◌%◌, List, map, slice_index_or}, List.range_with_len}
use Rattle.p3_field_core.specs.Residues.{Residues, plus}

-- cell i after a rotation by k places; past the last cell, the element 0 is rotated
abbrev pub turned_cell : {F : Type 0} → Residues F → ℕ → ℕ → List F → ℕ → F
turned_cell r k width cells i = plus r (slice_index_or cells ((i + k) % width) (r.of 0)) (i + 1)

abbrev pub turned : {F : Type 0} → Residues F → ℕ → ℕ → List F → List F
turned r k width cells = map (turned_cell r k width cells) (range_with_len 0 width)
