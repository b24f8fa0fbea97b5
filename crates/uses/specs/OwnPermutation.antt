-- A permutation of four cells, as an example.
use Rattle.std.specs.Prelude.{ℕ, ◌+◌, List, [], ◌∷◌, slice_index_or}
use Rattle.p3_field.specs.{BabyBearResidues.{BabyBear, residues}, Residues.{plus, power_of, sum_of}}

-- the seventh power of a cell increased by its place plus one
abbrev pub stirred_cell : List BabyBear → ℕ → BabyBear
stirred_cell cells i = power_of residues (plus residues (slice_index_or cells i (residues.of 0)) (i + 1)) 7

-- the sum of the four cells
abbrev pub total_of : List BabyBear → BabyBear
total_of cells =
    sum_of residues
    (sum_of residues (sum_of residues (stirred_cell cells 0) (stirred_cell cells 1)) (stirred_cell cells 2))
    (stirred_cell cells 3)

-- each cell plus that sum
abbrev pub stirred : List BabyBear → List BabyBear
stirred cells =
    sum_of residues (stirred_cell cells 0) (total_of cells)
    ∷ sum_of residues (stirred_cell cells 1) (total_of cells)
    ∷ sum_of residues (stirred_cell cells 2) (total_of cells)
    ∷ sum_of residues (stirred_cell cells 3) (total_of cells)
    ∷ []
