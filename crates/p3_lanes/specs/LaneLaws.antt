-- For numbers below an order, the reduced sum, difference or product of numbers gives that of their
-- elements.
use Rattle.std.proofs.{Common.{◌≡◌, ℕ, ◌+◌, ◌-◌, ◌*◌, ◌%◌, ◌<◌, ◌∙◌, sym, ap, ap₂}, Math.Nat.mod-mod}
use Rattle.p3_field_core.specs.Residues.{Residues, IsResidues, sum_of, difference_of, product_of}
use Rattle.p3_field_core.specs.ResidueLaws.{of-same, number_of-below}

module _ {F : Type 0} (r : Residues F) (laws : IsResidues r) (a b : ℕ) (a_below : a < r.order) (b_below : b < r.order) where
  a_is : r.number (r.of a) ≡ a
  a_is = number_of-below r laws a a_below

  b_is : r.number (r.of b) ≡ b
  b_is = number_of-below r laws b b_below

  pub sum_reduced : (n : ℕ) → n ≡ (a + b) % r.order → r.of n ≡ sum_of r (r.of a) (r.of b)
  sum_reduced n is =
      ap r.of is ∙ of-same r laws ((a + b) % r.order) (a + b) (mod-mod (a + b) r.order)
      ∙ ap₂ (λ u v. r.of (u + v)) (sym a_is) (sym b_is)

  pub difference_reduced : (n : ℕ) → n ≡ (a + (r.order - b)) % r.order → r.of n ≡ difference_of r (r.of a) (r.of b)
  difference_reduced n is =
      ap r.of is ∙ of-same r laws ((a + (r.order - b)) % r.order) (a + (r.order - b)) (mod-mod (a + (r.order - b)) r.order)
      ∙ ap₂ (λ u v. r.of (u + (r.order - v))) (sym a_is) (sym b_is)

  pub product_reduced : (n : ℕ) → n ≡ a * b % r.order → r.of n ≡ product_of r (r.of a) (r.of b)
  product_reduced n is =
      ap r.of is ∙ of-same r laws (a * b % r.order) (a * b) (mod-mod (a * b) r.order)
      ∙ ap₂ (λ u v. r.of (u * v)) (sym a_is) (sym b_is)
