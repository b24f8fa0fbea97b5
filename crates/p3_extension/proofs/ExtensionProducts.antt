-- The coefficients of a product modulo X^4 - W, as inner products.
use Rattle.std.proofs.Common.{◌≡◌, ◌+◌, ◌*◌, List, [], ◌∷◌, length, get_or, ◌∙◌, sym, ap, ap₂, refl, arith}
use Rattle.p3_field_core.specs.Residues.{Residues, IsResidues, product_of}
use Rattle.p3_extension.specs.{BinomialExtensions.{polynomial_product, inner_product_of}, declared.binomial_extension_field.BinomialExtensionField.BinomialExtensionField}
use Rattle.p3_extension.specs.{ExtensionCoefficients.coefficients_of, ExtensionCoefficientLaws.coefficients-injective}
use Rattle.p3_extension.specs.ExtensionLaws.{four, same-items, of-combined, product-four}
use Rattle.p3_extension.proofs.Readings.{read-items, read-four}

module _ {F : Type 0} (r : Residues F) (laws : IsResidues r) (w : F) where
  -- the matrix of a factor has its coefficients, and those above the diagonal times W
  pub product-rows : (a b c d e f g h wf wg wh : F)
      → wf ≡ product_of r w f → wg ≡ product_of r w g → wh ≡ product_of r w h
      → four (inner_product_of r 4 (a ∷ b ∷ c ∷ d ∷ []) (e ∷ wh ∷ wg ∷ wf ∷ []))
      (inner_product_of r 4 (a ∷ b ∷ c ∷ d ∷ []) (f ∷ e ∷ wh ∷ wg ∷ []))
      (inner_product_of r 4 (a ∷ b ∷ c ∷ d ∷ []) (g ∷ f ∷ e ∷ wh ∷ []))
      (inner_product_of r 4 (a ∷ b ∷ c ∷ d ∷ []) (h ∷ g ∷ f ∷ e ∷ []))
      ≡ polynomial_product r w (four a b c d) (four e f g h)
  product-rows a b c d e f g h wf wg wh ef eg eh =
      let n = r.number in
      let row = of-combined r laws (n a) (n b) (n c) (n d) (n a) (n b) (n c) (n d) in
      let pf : r.of (n wf) ≡ r.of (n w * n f) = laws.of_number wf ∙ ef in
      let pg : r.of (n wg) ≡ r.of (n w * n g) = laws.of_number wg ∙ eg in
      let ph : r.of (n wh) ≡ r.of (n w * n h) = laws.of_number wh ∙ eh in
      coefficients-injective _ _
      (same-items
      (ap r.of (omega arith) ∙ row (n e) (n wh) (n wg) (n wf) _ _ _ _ refl refl refl refl refl ph pg pf)
      (ap r.of (omega arith) ∙ row (n f) (n e) (n wh) (n wg) _ _ _ _ refl refl refl refl refl refl ph pg)
      (ap r.of (omega arith) ∙ row (n g) (n f) (n e) (n wh) _ _ _ _ refl refl refl refl refl refl refl ph)
      (ap r.of (omega arith)))
      ∙ sym (product-four r laws w a b c d e f g h)

  -- the inner product of two lists of four, by what is read from them
  pub inner-product-read : (xs ys : List F) → length xs ≡ 4 → length ys ≡ 4 → (p0 p1 p2 p3 q0 q1 q2 q3 : F)
      → r.of (r.number (get_or xs 0 p0) * r.number (get_or ys 0 q0) + r.number (get_or xs 1 p1) * r.number (get_or ys 1 q1)
      + r.number (get_or xs 2 p2) * r.number (get_or ys 2 q2) + r.number (get_or xs 3 p3) * r.number (get_or ys 3 q3))
      ≡ inner_product_of r 4 xs ys
  inner-product-read xs ys x_full y_full p0 p1 p2 p3 q0 q1 q2 q3 =
      let whole : r.number (get_or xs 0 p0) * r.number (get_or ys 0 q0) + r.number (get_or xs 1 p1) * r.number (get_or ys 1 q1)
      + r.number (get_or xs 2 p2) * r.number (get_or ys 2 q2) + r.number (get_or xs 3 p3) * r.number (get_or ys 3 q3)
      ≡ 0 + r.number (get_or xs 0 p0) * r.number (get_or ys 0 q0) + r.number (get_or xs 1 p1) * r.number (get_or ys 1 q1)
      + r.number (get_or xs 2 p2) * r.number (get_or ys 2 q2) + r.number (get_or xs 3 p3) * r.number (get_or ys 3 q3) =
      omega arith in
      ap r.of whole
      ∙ sym (ap₂ (inner_product_of r 4) (read-items xs x_full p0 p1 p2 p3) (read-items ys y_full q0 q1 q2 q3))

  -- the product, by what is read from the second factor
  module _ (x y : BinomialExtensionField F 4) (p q s t wf wg wh : F) where
    abbrev e : F
    e = get_or (coefficients_of y) 0 p

    abbrev f : F
    f = get_or (coefficients_of y) 1 q

    abbrev g : F
    g = get_or (coefficients_of y) 2 s

    abbrev h : F
    h = get_or (coefficients_of y) 3 t

    abbrev row : List F → F
    row = inner_product_of r 4 (coefficients_of x)

    pub product-read : (w1 w2 w3 : F) → w1 ≡ w → w2 ≡ w → w3 ≡ w
        → wf ≡ product_of r w1 f → wg ≡ product_of r w2 g → wh ≡ product_of r w3 h
        → (z : BinomialExtensionField F 4) → coefficients_of z
        ≡ row (e ∷ wh ∷ wg ∷ wf ∷ []) ∷ row (f ∷ e ∷ wh ∷ wg ∷ []) ∷ row (g ∷ f ∷ e ∷ wh ∷ []) ∷ row (h ∷ g ∷ f ∷ e ∷ []) ∷ []
        → z ≡ polynomial_product r w x y
    product-read w1 w2 w3 is1 is2 is3 of_f of_g of_h z is =
        let a = get_or (coefficients_of x) 0 p in
        let b = get_or (coefficients_of x) 1 p in
        let c = get_or (coefficients_of x) 2 p in
        let d = get_or (coefficients_of x) 3 p in
        let xs = read-items (coefficients_of x) x.full p p p p in
        let at : (ys : List F) → row ys ≡ inner_product_of r 4 (a ∷ b ∷ c ∷ d ∷ []) ys =
        λ ys. ap (λ zs. inner_product_of r 4 zs ys) xs in
        coefficients-injective z (four _ _ _ _) (is
        ∙ same-items (at (e ∷ wh ∷ wg ∷ wf ∷ [])) (at (f ∷ e ∷ wh ∷ wg ∷ [])) (at (g ∷ f ∷ e ∷ wh ∷ [])) (at (h ∷ g ∷ f ∷ e ∷ [])))
        ∙ product-rows a b c d e f g h wf wg wh
        (of_f ∙ ap (λ v. product_of r v f) is1) (of_g ∙ ap (λ v. product_of r v g) is2) (of_h ∙ ap (λ v. product_of r v h) is3)
        ∙ ap₂ (polynomial_product r w) (sym (read-four x p p p p)) (sym (read-four y p q s t))
