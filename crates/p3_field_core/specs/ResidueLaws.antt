-- Consequences of residues, for proofs here and above.
use Rattle.std.proofs.{Common.{◌≡◌, ℕ, ◌%◌, ◌<◌, ◌∙◌, sym, ap}, Math.Nat.mod-eq_of_lt}
use Rattle.p3_field_core.specs.Residues.{Residues, IsResidues}

-- numbers below an order that determine the elements are residues
pub laws-of-injective : {F : Type 0} (r : Residues F) → 1 < r.order
    → ((x : F) → r.number x < r.order)
    → ((n : ℕ) → r.number (r.of n) ≡ n % r.order)
    → ((x y : F) → r.number x ≡ r.number y → x ≡ y)
    → IsResidues r
laws-of-injective r above_one below number_of injective = record {
  above_one = above_one;
  below = below;
  number_of = number_of;
  of_number = λ x. injective (r.of (r.number x)) x (number_of (r.number x) ∙ mod-eq_of_lt (below x));
}

module _ {F : Type 0} (r : Residues F) (laws : IsResidues r) where
  -- elements with the same number are equal
  pub number-injective : (x y : F) → r.number x ≡ r.number y → x ≡ y
  number-injective x y e = sym (laws.of_number x) ∙ ap r.of e ∙ laws.of_number y

  -- a number below the order is the canonical number of its element
  pub number_of-below : (n : ℕ) → n < r.order → r.number (r.of n) ≡ n
  number_of-below n below = laws.number_of n ∙ mod-eq_of_lt below

  -- numbers below the order that give the same element are equal
  pub of-injective : (n k : ℕ) → n < r.order → k < r.order → r.of n ≡ r.of k → n ≡ k
  of-injective n k n_below k_below e = sym (number_of-below n n_below) ∙ ap r.number e ∙ number_of-below k k_below

  -- numbers with the same remainder modulo the order give the same element
  pub of-same : (n k : ℕ) → n % r.order ≡ k % r.order → r.of n ≡ r.of k
  of-same n k e = number-injective (r.of n) (r.of k) (laws.number_of n ∙ e ∙ sym (laws.number_of k))

  -- an element whose number has the remainder of n is the element of n
  pub of-is : (x : F) (n : ℕ) → r.number x % r.order ≡ n % r.order → x ≡ r.of n
  of-is x n e = sym (laws.of_number x) ∙ of-same (r.number x) n e
