-- Extensions of a field as rings: laws of sums, differences and products of polynomials modulo X^D - W.
use Rattle.std.specs.Prelude.{◌≡◌, ℕ}
use Rattle.p3_field_core.specs.Residues.{Residues, sum_of, product_of}
use Rattle.p3_extension.specs.BinomialExtensions.{polynomial_sum, polynomial_difference, polynomial_product, polynomial_power}
use Rattle.p3_extension.specs.{BinomialExtensions.{constant, root}, declared.binomial_extension_field.BinomialExtensionField.BinomialExtensionField}

-- the polynomials are a commutative ring that contains the field, and in it X^D is W
pub record IsExtension {F : Type 0} (D : ℕ) (r : Residues F) (w : F) : Type 0 where
  -- sums and differences
  pub sum_commutes : (x y : BinomialExtensionField F D) → polynomial_sum r x y ≡ polynomial_sum r y x
  pub sum_associates : (x y z : BinomialExtensionField F D) →
      polynomial_sum r (polynomial_sum r x y) z ≡ polynomial_sum r x (polynomial_sum r y z)
  pub sum_with_zero : (x : BinomialExtensionField F D) → polynomial_sum r x (constant r (r.of 0)) ≡ x
  pub taken_and_added : (x y : BinomialExtensionField F D) → polynomial_sum r (polynomial_difference r x y) y ≡ x
  pub added_and_taken : (x y : BinomialExtensionField F D) → polynomial_difference r (polynomial_sum r x y) y ≡ x
  -- products
  pub product_commutes : (x y : BinomialExtensionField F D) → polynomial_product r w x y ≡ polynomial_product r w y x
  pub product_associates : (x y z : BinomialExtensionField F D) →
      polynomial_product r w (polynomial_product r w x y) z ≡ polynomial_product r w x (polynomial_product r w y z)
  pub product_with_one : (x : BinomialExtensionField F D) → polynomial_product r w x (constant r (r.of 1)) ≡ x
  pub product_with_sum : (x y z : BinomialExtensionField F D) → polynomial_product r w x (polynomial_sum r y z)
      ≡ polynomial_sum r (polynomial_product r w x y) (polynomial_product r w x z)
  -- the field, and the root of X^D - W
  pub sum_of_constants : (a b : F) →
      polynomial_sum {D = D} r (constant r a) (constant r b) ≡ constant r (sum_of r a b)
  pub product_of_constants : (a b : F) →
      polynomial_product {D = D} r w (constant r a) (constant r b) ≡ constant r (product_of r a b)
  pub power_of_root : polynomial_power {D = D} r w (root r) D ≡ constant r w
