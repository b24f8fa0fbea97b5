-- Laws of the coefficients of a user-defined algebra.
use Rattle.std.specs.{Prelude.{◌≡◌, Bool}, Cmp.Lexicographic.{pointwise, pointwise_decides}}
use Rattle.p3_field.specs.{BabyBearResidues.BabyBear, Equality.{IsExact, exact-by}}
use Rattle.uses.specs.{OwnAlgebra.coefficients_of, declared.own_algebra.Quartic.Quartic}
use Rattle.p3_field.specs.CoefficientLaws as laws

-- elements with the same coefficients are equal
pub coefficients-injective : (x y : Quartic) → coefficients_of x ≡ coefficients_of y → x ≡ y
coefficients-injective x y e =
    let same = laws.coefficients-injective x.coefficients y.coefficients e in
    λ i. record { coefficients = same i }

-- elements compare equal exactly where they are the same
pub compared-by-coefficients : {eq : BabyBear → BabyBear → Bool} → IsExact eq →
    IsExact (λ (x y : Quartic). pointwise eq (coefficients_of x) (coefficients_of y))
compared-by-coefficients exact = exact-by coefficients_of (pointwise_decides exact) coefficients-injective
