-- Residues: the elements of a prime field as numbers below its order.
use Rattle.std.specs.Prelude.{◌≡◌, ℕ, ◌+◌, ◌-◌, ◌*◌, ◌%◌, ◌^◌, ◌<◌}

-- the order of a field, the canonical number of an element, and the element of a number modulo the order
pub record Residues (F : Type 0) : Type 0 where
  pub order : ℕ
  pub number : F → ℕ
  pub of : ℕ → F

-- the elements are exactly the numbers below the order
pub record IsResidues {F : Type 0} (r : Residues F) : Type 0 where
  pub above_one : 1 < r.order
  pub below : (x : F) → r.number x < r.order
  pub number_of : (n : ℕ) → r.number (r.of n) ≡ n % r.order
  pub of_number : (x : F) → r.of (r.number x) ≡ x

abbrev pub sum_of : {F : Type 0} → Residues F → F → F → F
sum_of r x y = r.of (r.number x + r.number y)

-- the sum of an element and a number
abbrev pub plus : {F : Type 0} → Residues F → F → ℕ → F
plus r x n = sum_of r x (r.of n)

abbrev pub difference_of : {F : Type 0} → Residues F → F → F → F
difference_of r x y = r.of (r.number x + (r.order - r.number y))

abbrev pub product_of : {F : Type 0} → Residues F → F → F → F
product_of r x y = r.of (r.number x * r.number y)

abbrev pub power_of : {F : Type 0} → Residues F → F → ℕ → F
power_of r x n = r.of (r.number x ^ n)
