-- Rounds whose constants are added in the layer before them.
use Rattle.std.specs.Prelude.{ℕ, List, map}
use Rattle.std.specs.List.{range_with_len}
use Rattle.p3_field_core.specs.Residues.{Residues, sum_of, power_of}
use Rattle.p3_poseidon2.specs.Poseidon2.{cell}

-- the cells, each with its constant added
abbrev pub with_constants : {F : Type 0} → Residues F → ℕ → List F → List F → List F
with_constants r width constants cells =
    map (λ i. sum_of r (cell r cells i) (cell r constants i)) (range_with_len 0 width)

-- the powers of the cells
abbrev pub powered : {F : Type 0} → Residues F → ℕ → ℕ → List F → List F
powered r width degree cells = map (λ i. power_of r (cell r cells i) degree) (range_with_len 0 width)
