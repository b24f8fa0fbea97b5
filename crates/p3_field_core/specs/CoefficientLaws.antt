-- Laws of the coefficients of an element: of an array of them, and of an element of the base field.
use Rattle.std.{specs.Prelude.{◌≡◌, ℕ, ◌≤◌, Bool, List, [], ◌∷◌, length, replicate, refl}, proofs.Math.Nat.ℕ_set}
use Rattle.std.proofs.{Common.{◌∙◌, ap, arith}, lemmas.List.{take-append-le, take_all}}
use Rattle.std.specs.Cmp.Lexicographic.{pointwise, pointwise_decides}
use mathlib.Core.HLevel.{is_prop→PathP}
use Rattle.p3_field_core.specs.{Equality.{IsExact, exact-by}, Coefficients.element_of_one}
use Rattle.p3_field_core.specs.{CoeffsCoefficients.{coefficients_of, element_of}, declared.coeffs.Coeffs.Coeffs}

pub length-coefficients : {F : Type 0} {D : ℕ} (x : Coeffs F D) → length (coefficients_of x) ≡ D
length-coefficients x = x.full

-- elements with the same coefficients are equal
pub coefficients-injective : {F : Type 0} {D : ℕ} (x y : Coeffs F D) → coefficients_of x ≡ coefficients_of y → x ≡ y
coefficients-injective {F} {D} x y e =
    λ i. record {
      coefficients = e i;
      full = is_prop→PathP (λ j. length (e j) ≡ D) (λ j. ℕ_set (length (e j)) D) x.full y.full i;
    }

-- elements compare equal exactly where they are the same, if coefficients do
pub compared-by-coefficients : {F : Type 0} {D : ℕ} {eq : F → F → Bool} → IsExact eq
    → IsExact (λ (x y : Coeffs F D). pointwise eq (coefficients_of x) (coefficients_of y))
compared-by-coefficients exact = exact-by coefficients_of (pointwise_decides exact) coefficients-injective

pub coefficients-element_of : {F : Type 0} {D : ℕ} (nought : F) (xs : List F) → length xs ≡ D
    → coefficients_of (element_of {D = D} nought xs) ≡ xs
coefficients-element_of {F} {D} nought xs full =
    let whole : D ≤ length xs = omega (arith, full) in
    let all : length xs ≤ D = omega (arith, full) in
    take-append-le D xs (replicate D nought) whole ∙ take_all D xs all

-- ---- an element of the base field is its one coefficient

pub one_coefficient : {F : Type 0} (x y : F) → x ∷ [] ≡ y ∷ [] → x ≡ y
one_coefficient x y e = cc

pub of_itself : {F : Type 0} (value x : F) → x ≡ value → x ∷ [] ≡ value ∷ []
of_itself value x e = ap (λ y. y ∷ []) e

pub coefficients-element_of_one : {F : Type 0} (nought : F) (xs : List F) → length xs ≡ 1
    → element_of_one nought xs ∷ [] ≡ xs
coefficients-element_of_one nought [] one = absurd (omega (arith, one))
coefficients-element_of_one nought (x ∷ []) one = refl
coefficients-element_of_one nought (x ∷ y ∷ ys) one = absurd (omega (arith, one))
