-- Worked rows, computed on the definitions.
use Rattle.std.proofs.Common.{◌≡◌, ℕ, ◌%◌, [], ◌∷◌, codes, refl}
use Rattle.p3_field_core.specs.Residues.{Residues}
use Rattle.p3_extension.specs.{BinomialExtensions.polynomial_product, BinomialIdentities.binomial_identity}
use Rattle.p3_extension.specs.{ExtensionCoefficients.coefficients_of, ExtensionLaws.four}

-- the numbers modulo the order 15 * 2 ^ 27 + 1
abbrev numbers : Residues ℕ
numbers = record { order = 2013265921; number = λ n. n; of = λ n. n % 2013265921 }

-- products modulo X^4 - 11: of 1 + 2 X + 3 X^2 + 4 X^3 and 5 + 6 X + 7 X^2 + 8 X^3; of -1 - X - X^2 - X^3 with
-- itself; and of X and X^3
products : (coefficients_of (polynomial_product numbers 11 (four 1 2 3 4) (four 5 6 7 8)) ≡ 676 ∷ 588 ∷ 386 ∷ 60 ∷ [])
    × (coefficients_of
    (polynomial_product numbers 11 (four 2013265920 2013265920 2013265920 2013265920)
    (four 2013265920 2013265920 2013265920 2013265920))
    ≡ 34 ∷ 24 ∷ 14 ∷ 4 ∷ [])
    × (coefficients_of (polynomial_product numbers 11 (four 0 1 0 0) (four 0 0 0 1)) ≡ 11 ∷ 0 ∷ 0 ∷ 0 ∷ [])
products = (refl, refl, refl)

identity : binomial_identity 2013265921 4 11 ≡ codes "binomial:2013265921:4:11"
identity = refl
