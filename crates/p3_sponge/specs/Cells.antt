-- Cells of a sponge over a prime field. The first ones are the rate.
use Rattle.std.specs.Prelude.{ℕ, ◌+◌, ◌-◌, List, ◌∷◌, ◌++◌, length, drop, replicate, slice_index_or}
use Rattle.p3_field_core.specs.Residues.{Residues, plus}

-- a cell; past the last one, the element 0
abbrev pub cell : {F : Type 0} → Residues F → List F → ℕ → F
cell r cells i = slice_index_or cells i (r.of 0)

-- the cells with the rate overwritten: a number is added to the cell after it, and the other cells stay
abbrev pub counted_over : {F : Type 0} → Residues F → ℕ → List F → List F → ℕ → List F
counted_over r rate cells front n = front ++ (plus r (cell r cells rate) n ∷ drop (rate + 1) cells)

-- the cells with a block and zeros after it written over the rate; the added number is the length of the block
abbrev pub overwritten : {F : Type 0} → Residues F → ℕ → List F → List F → List F
overwritten r rate cells block =
    counted_over r rate cells (block ++ replicate (rate - length block) (r.of 0)) (length block)
