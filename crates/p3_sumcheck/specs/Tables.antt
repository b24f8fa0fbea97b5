-- Tables of values: their sums, and their folds.
use Rattle.std.specs.{Prelude.{◌/◌, List, [], ◌∷◌, length, take, drop, map, sum_by}, List.zip}
use Rattle.p3_field.specs.Residues.{Residues, sum_of, difference_of, product_of}

abbrev pub low_half : {F : Type 0} → List F → List F
low_half table = take (length table / 2) table

abbrev pub high_half : {F : Type 0} → List F → List F
high_half table = drop (length table / 2) table

-- the sum of values
abbrev pub total : {F : Type 0} → Residues F → List F → F
total r values = r.of (sum_by r.number values)

-- the value at x of the line through a at 0 and b at 1
abbrev pub value_at : {F : Type 0} → Residues F → F → F → F → F
value_at r x a b = sum_of r a (product_of r x (difference_of r b a))

-- the values at x of the lines through the values of two lists, place by place
abbrev pub fold_pairs : {F : Type 0} → Residues F → F → List F → List F → List F
fold_pairs r x low high = map (λ pair. value_at r x pair.0 pair.1) (zip low high)

-- a folded table: half as many values, each on the line through two values half a table apart
abbrev pub folded : {F : Type 0} → Residues F → F → List F → List F
folded r x table = fold_pairs r x (low_half table) (high_half table)

-- the table folded at each element of a point in turn
abbrev pub folded_at : {F : Type 0} → Residues F → List F → List F → List F
folded_at r [] table = table
folded_at r (x ∷ point) table = folded_at r point (folded r x table)
