-- Four coefficients, read one by one.
use Rattle.std.proofs.Common.{◌≡◌, List, [], ◌∷◌, length, get_or, refl, arith}
use Rattle.p3_extension.specs.{ExtensionCoefficients.coefficients_of, ExtensionCoefficientLaws.coefficients-injective}
use Rattle.p3_extension.specs.{ExtensionLaws.four, declared.binomial_extension_field.BinomialExtensionField.BinomialExtensionField}

module _ {F : Type 0} where
  -- a list of four is what is read from it
  pub read-items : (xs : List F) → length xs ≡ 4 → (p q s t : F)
      → xs ≡ get_or xs 0 p ∷ get_or xs 1 q ∷ get_or xs 2 s ∷ get_or xs 3 t ∷ []
  read-items [] e p q s t = absurd (omega (arith, e))
  read-items (a ∷ []) e p q s t = absurd (omega (arith, e))
  read-items (a ∷ b ∷ []) e p q s t = absurd (omega (arith, e))
  read-items (a ∷ b ∷ c ∷ []) e p q s t = absurd (omega (arith, e))
  read-items (a ∷ b ∷ c ∷ d ∷ []) e p q s t = refl
  read-items (a ∷ b ∷ c ∷ d ∷ x ∷ xs) e p q s t = absurd (omega (arith, e))

  pub read-four : (x : BinomialExtensionField F 4) (p q s t : F) → x ≡ four (get_or (coefficients_of x) 0 p) (get_or (coefficients_of x) 1 q)
      (get_or (coefficients_of x) 2 s) (get_or (coefficients_of x) 3 t)
  read-four x p q s t = coefficients-injective x (four _ _ _ _) (read-items (coefficients_of x) x.full p q s t)
