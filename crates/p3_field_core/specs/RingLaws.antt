-- Residues are a ring.
use Rattle.std.proofs.{Common.{◌≡◌, ℕ, ◌+◌, ◌-◌, ◌*◌, ◌%◌, ◌^◌, ◌≤◌, ◌∙◌, sym, ap, arith}, Math.Nat.mod-add-mod}
use Rattle.std.proofs.Math.Nat.{add-mod-mod, add-mod_right, add_comm, add_assoc, add-zero, mul-add, mul-one, mul-zero}
use Rattle.std.proofs.{Math.Nat.{mul_comm, mul_assoc}, lemmas.Nat.{mul-mod_first, mul-mod_second, pow-mod}}
use Rattle.p3_field_core.specs.Residues.{Residues, IsResidues, sum_of, difference_of, product_of, power_of}
use Rattle.p3_field_core.specs.{ResidueLaws.of-same, Rings.IsRing}

module _ {F : Type 0} (r : Residues F) (laws : IsResidues r) where
  -- in a sum, the element of a number may be replaced by the number
  sum-left : (n : ℕ) (y : F) → sum_of r (r.of n) y ≡ r.of (n + r.number y)
  sum-left n y =
      of-same r laws (r.number (r.of n) + r.number y) (n + r.number y)
      (ap (λ k. (k + r.number y) % r.order) (laws.number_of n) ∙ mod-add-mod n r.order (r.number y))

  sum-commutes : (x y : F) → sum_of r x y ≡ sum_of r y x
  sum-commutes x y = ap r.of (add_comm (r.number x) (r.number y))

  sum-right : (x : F) (k : ℕ) → sum_of r x (r.of k) ≡ r.of (r.number x + k)
  sum-right x k = sum-commutes x (r.of k) ∙ sum-left k x ∙ ap r.of (add_comm k (r.number x))

  sum-numbers : (n k : ℕ) → sum_of r (r.of n) (r.of k) ≡ r.of (n + k)
  sum-numbers n k =
      sum-left n (r.of k)
      ∙ of-same r laws (n + r.number (r.of k)) (n + k)
      (ap (λ m. (n + m) % r.order) (laws.number_of k) ∙ add-mod-mod n k r.order)

  sum-associates : (x y z : F) → sum_of r (sum_of r x y) z ≡ sum_of r x (sum_of r y z)
  sum-associates x y z =
      sum-left (r.number x + r.number y) z
      ∙ ap r.of (add_assoc (r.number x) (r.number y) (r.number z))
      ∙ sym (sum-right x (r.number y + r.number z))

  sum-zero : (x : F) → sum_of r x (r.of 0) ≡ x
  sum-zero x = sum-right x 0 ∙ ap r.of (add-zero (r.number x)) ∙ laws.of_number x

  -- the order may be added to a number
  of-more : (x : F) (n : ℕ) → n ≡ r.number x + r.order → r.of n ≡ x
  of-more x n e =
      ap r.of e ∙ of-same r laws (r.number x + r.order) (r.number x) (add-mod_right (r.number x) r.order)
      ∙ laws.of_number x

  taken-added : (x y : F) → sum_of r (difference_of r x y) y ≡ x
  taken-added x y =
      let below = laws.below y in
      let whole : r.number x + (r.order - r.number y) + r.number y ≡ r.number x + r.order = omega (arith, below) in
      sum-left (r.number x + (r.order - r.number y)) y ∙ of-more x _ whole

  added-taken : (x y : F) → difference_of r (sum_of r x y) y ≡ x
  added-taken x y =
      let below = laws.below y in
      let sum = r.number x + r.number y in
      let left = r.order - r.number y in
      let whole : sum + left ≡ r.number x + r.order = omega (arith, below) in
      of-same r laws (r.number (r.of sum) + left) (sum + left)
      (ap (λ k. (k + left) % r.order) (laws.number_of sum) ∙ mod-add-mod sum r.order left)
      ∙ of-more x _ whole

  sum-cancels : (x y z : F) → sum_of r x z ≡ sum_of r y z → x ≡ y
  sum-cancels x y z e = sym (added-taken x z) ∙ ap (λ s. difference_of r s z) e ∙ added-taken y z

  -- the element that gives x with y is their difference
  difference-is : (x y z : F) → sum_of r z y ≡ x → z ≡ difference_of r x y
  difference-is x y z e = sum-cancels z (difference_of r x y) y (e ∙ sym (taken-added x y))

  difference-numbers : (n k : ℕ) → k ≤ n → difference_of r (r.of n) (r.of k) ≡ r.of (n - k)
  difference-numbers n k within =
      let whole : n - k + k ≡ n = omega (arith, within) in
      sym (difference-is (r.of n) (r.of k) (r.of (n - k)) (sum-numbers (n - k) k ∙ ap r.of whole))

  taken-itself : (x : F) → difference_of r x x ≡ r.of 0
  taken-itself x = sym (difference-is x x (r.of 0) (sum-commutes (r.of 0) x ∙ sum-zero x))

  taken-zero : (x y : F) → sum_of r x (difference_of r (r.of 0) y) ≡ difference_of r x y
  taken-zero x y =
      difference-is x y (sum_of r x (difference_of r (r.of 0) y))
      (sum-associates x (difference_of r (r.of 0) y) y
      ∙ ap (λ z. sum_of r x z) (taken-added (r.of 0) y)
      ∙ sum-zero x)

  product-commutes : (x y : F) → product_of r x y ≡ product_of r y x
  product-commutes x y = ap r.of (mul_comm (r.number x) (r.number y))

  -- in a product, the element of a number may be replaced by the number
  product-left : (n : ℕ) (y : F) → product_of r (r.of n) y ≡ r.of (n * r.number y)
  product-left n y =
      of-same r laws (r.number (r.of n) * r.number y) (n * r.number y)
      (ap (λ k. (k * r.number y) % r.order) (laws.number_of n) ∙ mul-mod_first n (r.number y) r.order)

  product-right : (x : F) (k : ℕ) → product_of r x (r.of k) ≡ r.of (r.number x * k)
  product-right x k = product-commutes x (r.of k) ∙ product-left k x ∙ ap r.of (mul_comm k (r.number x))

  product-numbers : (n k : ℕ) → product_of r (r.of n) (r.of k) ≡ r.of (n * k)
  product-numbers n k =
      product-left n (r.of k)
      ∙ of-same r laws (n * r.number (r.of k)) (n * k)
      (ap (λ m. (n * m) % r.order) (laws.number_of k) ∙ mul-mod_second n k r.order)

  product-associates : (x y z : F) → product_of r (product_of r x y) z ≡ product_of r x (product_of r y z)
  product-associates x y z =
      product-left (r.number x * r.number y) z
      ∙ ap r.of (mul_assoc (r.number x) (r.number y) (r.number z))
      ∙ sym (product-right x (r.number y * r.number z))

  product-one : (x : F) → product_of r x (r.of 1) ≡ x
  product-one x = product-right x 1 ∙ ap r.of (mul-one (r.number x)) ∙ laws.of_number x

  product-zero : (x : F) → product_of r x (r.of 0) ≡ r.of 0
  product-zero x = product-right x 0 ∙ ap r.of (mul-zero (r.number x))

  product-sum : (x y z : F) → product_of r x (sum_of r y z) ≡ sum_of r (product_of r x y) (product_of r x z)
  product-sum x y z =
      product-right x (r.number y + r.number z)
      ∙ ap r.of (mul-add (r.number x) (r.number y) (r.number z))
      ∙ sym (sum-numbers (r.number x * r.number y) (r.number x * r.number z))

  product-difference : (x y z : F) →
      product_of r x (difference_of r y z) ≡ difference_of r (product_of r x y) (product_of r x z)
  product-difference x y z =
      difference-is (product_of r x y) (product_of r x z) (product_of r x (difference_of r y z))
      (sym (product-sum x (difference_of r y z) z) ∙ ap (product_of r x) (taken-added y z))

  product-last : (x : F) → product_of r x (r.of (r.order - 1)) ≡ difference_of r (r.of 0) x
  product-last x =
      let above = laws.above_one in
      let whole : r.order - 1 + 1 ≡ 0 + r.order = omega (arith, above) in
      let next : r.of (r.order - 1 + 1) ≡ r.of 0 =
      ap r.of whole ∙ of-same r laws (0 + r.order) 0 (add-mod_right 0 r.order) in
      let last = r.of (r.order - 1) in
      difference-is (r.of 0) x (product_of r x last)
      (ap (λ y. sum_of r (product_of r x last) y) (sym (product-one x))
      ∙ sym (product-sum x last (r.of 1))
      ∙ ap (product_of r x) (sum-numbers (r.order - 1) 1 ∙ next)
      ∙ product-zero x)

  power-number : (n k : ℕ) → power_of r (r.of n) k ≡ r.of (n ^ k)
  power-number n k =
      of-same r laws (r.number (r.of n) ^ k) (n ^ k)
      (ap (λ m. m ^ k % r.order) (laws.number_of n) ∙ pow-mod n k r.order)

  -- residues are a ring
  pub residues-ring : IsRing r
  residues-ring = record {
    sum_of_numbers = sum-numbers;
    difference_of_numbers = difference-numbers;
    product_of_numbers = product-numbers;
    power_of_number = power-number;
    sum_commutes = sum-commutes;
    sum_associates = sum-associates;
    sum_with_zero = sum-zero;
    sum_cancels = sum-cancels;
    taken_and_added = taken-added;
    added_and_taken = added-taken;
    taken_from_itself = taken-itself;
    taken_from_zero = taken-zero;
    product_commutes = product-commutes;
    product_associates = product-associates;
    product_with_one = product-one;
    product_with_zero = product-zero;
    product_with_last = product-last;
    product_with_sum = product-sum;
    product_with_difference = product-difference;
  }
