-- Extensions of a field: the polynomials of degree below D, with sums and products modulo X^D - W.
use Rattle.std.specs.{Prelude.{ℕ, zero, suc, ◌+◌, ◌-◌, ◌*◌, List, [], ◌∷◌, map, slice_index_or, sum_by}, List.{range_with_len}}
use Rattle.std.proofs.lemmas.List.FromFn.{length-map-range_with_len}
use Rattle.p3_field_core.specs.Residues.{Residues}
use Rattle.p3_extension.specs.{ExtensionCoefficients.{coefficients_of, element_of}, declared.binomial_extension_field.BinomialExtensionField.BinomialExtensionField}

-- the polynomial with f k as the coefficient of X^k
abbrev pub polynomial : {F : Type 0} {D : ℕ} → (ℕ → F) → BinomialExtensionField F D
polynomial {F} {D} f = record {
  coefficients = map f (range_with_len 0 D);
  full = length-map-range_with_len f 0 D;
}

-- the canonical number of the coefficient of X^i, which is 0 from X^D on
abbrev pub number_at : {F : Type 0} {D : ℕ} → Residues F → BinomialExtensionField F D → ℕ → ℕ
number_at r x i = slice_index_or (map r.number (coefficients_of x)) i 0

-- sums and differences, coefficient by coefficient
abbrev pub polynomial_sum : {F : Type 0} {D : ℕ} → Residues F → BinomialExtensionField F D → BinomialExtensionField F D → BinomialExtensionField F D
polynomial_sum r x y = polynomial (λ k. r.of (number_at r x k + number_at r y k))

abbrev pub polynomial_difference : {F : Type 0} {D : ℕ} → Residues F → BinomialExtensionField F D → BinomialExtensionField F D → BinomialExtensionField F D
polynomial_difference r x y = polynomial (λ k. r.of (number_at r x k + (r.order - number_at r y k)))

-- the sum of x_i y_j over all i + j = k: what X^k has in the product of two polynomials
abbrev pub convolution : {F : Type 0} {D : ℕ} → Residues F → BinomialExtensionField F D → BinomialExtensionField F D → ℕ → ℕ
convolution r x y k = sum_by (λ i. number_at r x i * number_at r y (k - i)) (range_with_len 0 (k + 1))

-- the product modulo X^D - W: X^D is W, so what X^(k + D) has is added W times at X^k
abbrev pub polynomial_product : {F : Type 0} {D : ℕ} → Residues F → F → BinomialExtensionField F D → BinomialExtensionField F D → BinomialExtensionField F D
polynomial_product {F} {D} r w x y = polynomial (λ k. r.of (convolution r x y k + r.number w * convolution r x y (k + D)))

-- an element of the field as a polynomial
abbrev pub constant : {F : Type 0} {D : ℕ} → Residues F → F → BinomialExtensionField F D
constant r c = element_of (r.of 0) (c ∷ [])

-- the polynomial X, where D is above 1
abbrev pub root : {F : Type 0} {D : ℕ} → Residues F → BinomialExtensionField F D
root r = element_of (r.of 0) (r.of 0 ∷ r.of 1 ∷ [])

-- the powers of a polynomial
abbrev pub polynomial_power : {F : Type 0} {D : ℕ} → Residues F → F → BinomialExtensionField F D → ℕ → BinomialExtensionField F D
polynomial_power r w x zero = constant r (r.of 1)
polynomial_power r w x (suc n) = polynomial_product r w x (polynomial_power r w x n)

-- the sum of the products of the elements of two lists at each of D places
abbrev pub inner_product_of : {F : Type 0} → Residues F → ℕ → List F → List F → F
inner_product_of r D xs ys =
    r.of (sum_by (λ i. r.number (slice_index_or xs i (r.of 0)) * r.number (slice_index_or ys i (r.of 0))) (range_with_len 0 D))
