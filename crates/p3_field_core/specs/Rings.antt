-- Rings of residues: laws of sums, differences and products that hold for any type of elements.
use Rattle.std.specs.Prelude.{◌≡◌, ℕ, ◌+◌, ◌-◌, ◌*◌, ◌^◌, ◌≤◌}
use Rattle.p3_field_core.specs.Residues.{Residues, sum_of, difference_of, product_of, power_of}

-- elements add, subtract and multiply as numbers do, modulo the order
pub record IsRing {F : Type 0} (r : Residues F) : Type 0 where
  -- the elements of numbers
  pub sum_of_numbers : (n k : ℕ) → sum_of r (r.of n) (r.of k) ≡ r.of (n + k)
  pub difference_of_numbers : (n k : ℕ) → k ≤ n → difference_of r (r.of n) (r.of k) ≡ r.of (n - k)
  pub product_of_numbers : (n k : ℕ) → product_of r (r.of n) (r.of k) ≡ r.of (n * k)
  pub power_of_number : (n k : ℕ) → power_of r (r.of n) k ≡ r.of (n ^ k)
  -- sums
  pub sum_commutes : (x y : F) → sum_of r x y ≡ sum_of r y x
  pub sum_associates : (x y z : F) → sum_of r (sum_of r x y) z ≡ sum_of r x (sum_of r y z)
  pub sum_with_zero : (x : F) → sum_of r x (r.of 0) ≡ x
  pub sum_cancels : (x y z : F) → sum_of r x z ≡ sum_of r y z → x ≡ y
  -- differences
  pub taken_and_added : (x y : F) → sum_of r (difference_of r x y) y ≡ x
  pub added_and_taken : (x y : F) → difference_of r (sum_of r x y) y ≡ x
  pub taken_from_itself : (x : F) → difference_of r x x ≡ r.of 0
  pub taken_from_zero : (x y : F) → sum_of r x (difference_of r (r.of 0) y) ≡ difference_of r x y
  -- products
  pub product_commutes : (x y : F) → product_of r x y ≡ product_of r y x
  pub product_associates : (x y z : F) → product_of r (product_of r x y) z ≡ product_of r x (product_of r y z)
  pub product_with_one : (x : F) → product_of r x (r.of 1) ≡ x
  pub product_with_zero : (x : F) → product_of r x (r.of 0) ≡ r.of 0
  pub product_with_last : (x : F) → product_of r x (r.of (r.order - 1)) ≡ difference_of r (r.of 0) x
  -- both sums and products
  pub product_with_sum : (x y z : F) → product_of r x (sum_of r y z) ≡ sum_of r (product_of r x y) (product_of r x z)
  pub product_with_difference : (x y z : F) →
      product_of r x (difference_of r y z) ≡ difference_of r (product_of r x y) (product_of r x z)
