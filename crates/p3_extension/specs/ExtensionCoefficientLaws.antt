-- Laws of the coefficients of an element of an extension.
use Rattle.std.{specs.Prelude.{◌≡◌, ℕ, ◌≤◌, Bool, List, length, replicate}, proofs.Math.Nat.ℕ_set}
use Rattle.std.proofs.{Common.{◌∙◌, arith}, lemmas.List.{take-append-le, take_all}}
use Rattle.std.specs.Cmp.Lexicographic.{pointwise, pointwise_decides}
use mathlib.Core.HLevel.{is_prop→PathP}
use Rattle.p3_field_core.specs.Equality.{IsExact, exact-by}
use Rattle.p3_extension.specs.ExtensionCoefficients.{coefficients_of, element_of}
use Rattle.p3_extension.specs.declared.binomial_extension_field.BinomialExtensionField.{BinomialExtensionField}

pub length-coefficients : {F : Type 0} {D : ℕ} (x : BinomialExtensionField F D) → length (coefficients_of x) ≡ D
length-coefficients x = x.full

-- elements with the same coefficients are equal
pub coefficients-injective : {F : Type 0} {D : ℕ} (x y : BinomialExtensionField F D) → coefficients_of x ≡ coefficients_of y →
    x ≡ y
coefficients-injective {F} {D} x y e =
    λ i. record {
      coefficients = e i;
      full = is_prop→PathP (λ j. length (e j) ≡ D) (λ j. ℕ_set (length (e j)) D) x.full y.full i;
    }

-- elements compare equal exactly where they are the same, if coefficients do
pub compared-by-coefficients : {F : Type 0} {D : ℕ} {eq : F → F → Bool} → IsExact eq
    → IsExact (λ (x y : BinomialExtensionField F D). pointwise eq (coefficients_of x) (coefficients_of y))
compared-by-coefficients exact = exact-by coefficients_of (pointwise_decides exact) coefficients-injective

pub coefficients-element_of : {F : Type 0} {D : ℕ} (nought : F) (xs : List F) → length xs ≡ D
    → coefficients_of (element_of {D = D} nought xs) ≡ xs
coefficients-element_of {F} {D} nought xs full =
    let whole : D ≤ length xs = omega (arith, full) in
    let all : length xs ≤ D = omega (arith, full) in
    take-append-le D xs (replicate D nought) whole ∙ take_all D xs all
