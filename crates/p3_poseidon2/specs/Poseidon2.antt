-- Poseidon2 as a function on lists of cells, in the words of the paper "Poseidon2: A Faster Version of the Poseidon
-- Hash Function". A list has `width` cells, a multiple of 4, and a matrix is given by its entries, which are numbers.
-- The constants are lists of elements; `specs/BabyBear16.antt` and the like have them.
use Rattle.std.specs.Prelude.{ℕ, zero, suc, ◌+◌, ◌-◌, ◌*◌, ◌/◌, ◌%◌, nat_eq, if◌then◌else◌, List, [], ◌∷◌, map, slice_index, slice_index_or, slice_set}
use Rattle.std.specs.List.{range_with_len}
use Rattle.p3_field_core.specs.Residues.{Residues, sum_of, power_of}

-- the sum of the numbers at the places below a bound
abbrev pub sum_below : ℕ → (ℕ → ℕ) → ℕ
sum_below zero f = 0
sum_below (suc n) f = sum_below n f + f n

-- the cell at a place
abbrev pub cell : {F : Type 0} → Residues F → List F → ℕ → F
cell r cells i = slice_index_or cells i (r.of 0)

-- the cell at place i of a matrix times the cells
abbrev pub product_cell : {F : Type 0} → Residues F → ℕ → (ℕ → ℕ → ℕ) → List F → ℕ → F
product_cell r width entry cells i = r.of (sum_below width (λ j. entry i j * r.number (cell r cells j)))

-- a matrix times the cells
abbrev pub times : {F : Type 0} → Residues F → ℕ → (ℕ → ℕ → ℕ) → List F → List F
times r width entry cells = map (product_cell r width entry cells) (range_with_len 0 width)

-- M_4 = circ(2, 3, 1, 1)
abbrev pub m_4 : ℕ → ℕ → ℕ
m_4 i j = slice_index (2 ∷ 3 ∷ 1 ∷ 1 ∷ []) ((j + 4 - i) % 4)

-- M_E = circ(2 M_4, M_4, .., M_4)
abbrev pub m_e : ℕ → ℕ → ℕ
m_e i j = (if nat_eq (i / 4) (j / 4) then 2 else 1) * m_4 (i % 4) (j % 4)

-- M_I: 1 everywhere, with this much more on the diagonal
abbrev pub m_i : (ℕ → ℕ) → ℕ → ℕ → ℕ
m_i more i j = if nat_eq i j then 1 + more i else 1

-- the S-box: a power of the sum of a cell and a constant
abbrev pub s_box : {F : Type 0} → Residues F → ℕ → F → F → F
s_box r degree x constant = power_of r (sum_of r x constant) degree

-- the S-boxes of all cells
abbrev pub full_cell : {F : Type 0} → Residues F → ℕ → List F → List F → ℕ → F
full_cell r degree constants cells i = s_box r degree (cell r cells i) (cell r constants i)

abbrev pub full_s_boxes : {F : Type 0} → Residues F → ℕ → ℕ → List F → List F → List F
full_s_boxes r width degree constants cells = map (full_cell r degree constants cells) (range_with_len 0 width)

-- an external (full) round: a constant is added to each cell, each cell goes through the S-box, and M_E follows
abbrev pub external_round : {F : Type 0} → Residues F → ℕ → ℕ → List F → List F → List F
external_round r width degree constants cells = times r width m_e (full_s_boxes r width degree constants cells)

-- an internal (partial) round: only the first cell gets a constant and goes through the S-box, and M_I follows
abbrev pub internal_round : {F : Type 0} → Residues F → ℕ → ℕ → List F → F → List F → List F
internal_round r width degree diagonal constant cells =
    times r width (m_i (λ i. r.number (cell r diagonal i)))
    (slice_set cells 0 (s_box r degree (cell r cells 0) constant))

-- rounds, one after another
abbrev pub external_rounds : {F : Type 0} → Residues F → ℕ → ℕ → List (List F) → List F → List F
external_rounds r width degree [] cells = cells
external_rounds r width degree (constants ∷ rest) cells =
    external_rounds r width degree rest (external_round r width degree constants cells)

abbrev pub internal_rounds : {F : Type 0} → Residues F → ℕ → ℕ → List F → List F → List F → List F
internal_rounds r width degree diagonal [] cells = cells
internal_rounds r width degree diagonal (constant ∷ rest) cells =
    internal_rounds r width degree diagonal rest (internal_round r width degree diagonal constant cells)

-- the permutation: M_E, the first external rounds, the internal rounds and the last external rounds
abbrev pub permuted : {F : Type 0} → Residues F → ℕ → ℕ → List F → List (List F) → List F → List (List F) → List F → List F
permuted r width degree diagonal initial internal terminal cells =
    external_rounds r width degree terminal
    (internal_rounds r width degree diagonal internal
    (external_rounds r width degree initial (times r width m_e cells)))
