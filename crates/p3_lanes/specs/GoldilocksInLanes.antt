-- Numbers side by side in four lanes, and their elements.
use Rattle.std.specs.Prelude.{◌≡◌, ℕ, ◌<◌, List, slice_index}
use Rattle.p3_goldilocks.specs.{GoldilocksResidues.element, declared.goldilocks.Goldilocks.Goldilocks}

-- the element in a lane, given by the number there
abbrev pub element_in : ℕ → List ℕ → Goldilocks
element_in l numbers = element (slice_index numbers l)

-- each lane has the result of an operation on the elements in that lane of two other values
abbrev pub IsInEachLane : (Goldilocks → Goldilocks → Goldilocks) → List ℕ → List ℕ → List ℕ → Type 0
IsInEachLane operation xs ys zs = (l : ℕ) → l < 4 → element_in l zs ≡ operation (element_in l xs) (element_in l ys)
