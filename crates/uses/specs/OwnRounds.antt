-- A permutation of rounds over two cells, as an example.
use Rattle.std.specs.Prelude.{List, [], ◌∷◌, slice_index_or}
use Rattle.p3_field.specs.{BabyBearResidues.{BabyBear, residues}, Residues.{sum_of, power_of}}

-- the cells after the round with this constant
abbrev pub after_round : List BabyBear → BabyBear → List BabyBear
after_round cells constant =
    let first = power_of residues (sum_of residues (slice_index_or cells 0 (residues.of 0)) constant) 7 in
    let second = slice_index_or cells 1 (residues.of 0) in
    sum_of residues first second ∷ sum_of residues (sum_of residues first second) second ∷ []

-- the cells after the rounds with these constants
abbrev pub permuted : List BabyBear → List BabyBear → List BabyBear
permuted [] cells = cells
permuted (constant ∷ constants) cells = permuted constants (after_round cells constant)
