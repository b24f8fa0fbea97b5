-- The polynomials modulo X^4 - W are a ring.
use Rattle.std.proofs.Common.{◌≡◌, ℕ, ◌+◌, ◌*◌, ◌∙◌, List, [], ◌∷◌, length, sym, ap, ap₂, subst, refl, arith}
use Rattle.p3_field_core.specs.{Residues.{Residues, IsResidues, sum_of, product_of}, RingLaws.residues-ring}
use Rattle.p3_extension.specs.{ExtensionCoefficients.coefficients_of, ExtensionCoefficientLaws.coefficients-injective}
use Rattle.p3_extension.specs.{ExtensionRings.IsExtension, declared.binomial_extension_field.BinomialExtensionField.BinomialExtensionField}
use Rattle.p3_extension.specs.BinomialExtensions.{polynomial_sum, polynomial_product, polynomial_power, constant, root}

module _ {F : Type 0} where
  -- the polynomial of these coefficients
  abbrev pub four : F → F → F → F → BinomialExtensionField F 4
  four a b c d = record { coefficients = a ∷ b ∷ c ∷ d ∷ []; full = refl }

  -- lists of four items
  pub same-items : {a b c d a' b' c' d' : F} → a ≡ a' → b ≡ b' → c ≡ c' → d ≡ d'
      → a ∷ b ∷ c ∷ d ∷ [] ≡ a' ∷ b' ∷ c' ∷ d' ∷ []
  same-items p q s t = cc

  pub four-items : (xs : List F) → length xs ≡ 4 → (a : F) × (b : F) × (c : F) × (d : F) × (a ∷ b ∷ c ∷ d ∷ [] ≡ xs)
  four-items [] e = absurd (omega (arith, e))
  four-items (a ∷ []) e = absurd (omega (arith, e))
  four-items (a ∷ b ∷ []) e = absurd (omega (arith, e))
  four-items (a ∷ b ∷ c ∷ []) e = absurd (omega (arith, e))
  four-items (a ∷ b ∷ c ∷ d ∷ []) e = (a, b, c, d, refl)
  four-items (a ∷ b ∷ c ∷ d ∷ x ∷ xs) e = absurd (omega (arith, e))

  -- what holds of all polynomials of four coefficients holds of all elements
  pub by-four : (P : BinomialExtensionField F 4 → Type 0) → ((a b c d : F) → P (four a b c d)) → (x : BinomialExtensionField F 4) → P x
  by-four P given x =
      let t = four-items (coefficients_of x) x.full in
      subst P (coefficients-injective (four t.0 t.1 t.2 t.3) x t.4) (given t.0 t.1 t.2 t.3)

-- the coefficients of the product of a polynomial with e, f, g, h: each is linear in those with a, b, c, d
module _ (w a b c d e f g h : ℕ) where
  abbrev pub constant_term : ℕ
  constant_term = a * e + b * (w * h) + c * (w * g) + d * (w * f)

  abbrev pub linear_term : ℕ
  linear_term = a * f + b * e + c * (w * h) + d * (w * g)

  abbrev pub quadratic_term : ℕ
  quadratic_term = a * g + b * f + c * e + d * (w * h)

  abbrev pub cubic_term : ℕ
  cubic_term = a * h + b * g + c * f + d * e

module _ {F : Type 0} (r : Residues F) (laws : IsResidues r) where
  abbrev n : F → ℕ
  n = r.number

  of-sums : (a a' b b' : ℕ) → r.of a ≡ r.of a' → r.of b ≡ r.of b' → r.of (a + b) ≡ r.of (a' + b')
  of-sums a a' b b' p q =
      sym ((residues-ring r laws).sum_of_numbers a b) ∙ ap₂ (sum_of r) p q ∙ (residues-ring r laws).sum_of_numbers a' b'

  of-products : (a a' b b' : ℕ) → r.of a ≡ r.of a' → r.of b ≡ r.of b' → r.of (a * b) ≡ r.of (a' * b')
  of-products a a' b b' p q =
      sym ((residues-ring r laws).product_of_numbers a b) ∙ ap₂ (product_of r) p q
      ∙ (residues-ring r laws).product_of_numbers a' b'

  -- in a combination, the elements of numbers may be replaced by the numbers
  pub of-combined : (a b c d a' b' c' d' s t u v s' t' u' v' : ℕ)
      → r.of a ≡ r.of a' → r.of b ≡ r.of b' → r.of c ≡ r.of c' → r.of d ≡ r.of d'
      → r.of s ≡ r.of s' → r.of t ≡ r.of t' → r.of u ≡ r.of u' → r.of v ≡ r.of v'
      → r.of (a * s + b * t + c * u + d * v) ≡ r.of (a' * s' + b' * t' + c' * u' + d' * v')
  of-combined a b c d a' b' c' d' s t u v s' t' u' v' p1 p2 p3 p4 q1 q2 q3 q4 =
      of-sums _ _ _ _
      (of-sums _ _ _ _ (of-sums _ _ _ _ (of-products a a' s s' p1 q1) (of-products b b' t t' p2 q2)) (of-products c c' u u' p3 q3))
      (of-products d d' v v' p4 q4)

  its : (k : ℕ) → r.of (n (r.of k)) ≡ r.of k
  its k = laws.of_number (r.of k)

  from-numbers : (a b c d s t u v : ℕ)
      → r.of (n (r.of a) * s + n (r.of b) * t + n (r.of c) * u + n (r.of d) * v) ≡ r.of (a * s + b * t + c * u + d * v)
  from-numbers a b c d s t u v =
      of-combined _ _ _ _ a b c d s t u v s t u v (its a) (its b) (its c) (its d) refl refl refl refl

  module _ (w : F) where
    -- the product with a polynomial is linear: a matrix times the coefficients
    pub product-four : (a b c d e f g h : F) → polynomial_product r w (four a b c d) (four e f g h)
        ≡ four (r.of (constant_term (n w) (n a) (n b) (n c) (n d) (n e) (n f) (n g) (n h)))
        (r.of (linear_term (n w) (n a) (n b) (n c) (n d) (n e) (n f) (n g) (n h)))
        (r.of (quadratic_term (n w) (n a) (n b) (n c) (n d) (n e) (n f) (n g) (n h)))
        (r.of (cubic_term (n w) (n a) (n b) (n c) (n d) (n e) (n f) (n g) (n h)))
    product-four a b c d e f g h =
        coefficients-injective _ _
        (same-items (ap r.of (omega arith)) (ap r.of (omega arith)) (ap r.of (omega arith)) (ap r.of (omega arith)))

    -- the same of the elements of numbers
    product-numbers : (a b c d : ℕ) (e f g h : F)
        → polynomial_product r w (four (r.of a) (r.of b) (r.of c) (r.of d)) (four e f g h)
        ≡ four (r.of (constant_term (n w) a b c d (n e) (n f) (n g) (n h)))
        (r.of (linear_term (n w) a b c d (n e) (n f) (n g) (n h)))
        (r.of (quadratic_term (n w) a b c d (n e) (n f) (n g) (n h)))
        (r.of (cubic_term (n w) a b c d (n e) (n f) (n g) (n h)))
    product-numbers a b c d e f g h =
        product-four (r.of a) (r.of b) (r.of c) (r.of d) e f g h
        ∙ coefficients-injective _ _
        (same-items (from-numbers a b c d _ _ _ _) (from-numbers a b c d _ _ _ _) (from-numbers a b c d _ _ _ _)
        (from-numbers a b c d _ _ _ _))

    abbrev product : BinomialExtensionField F 4 → BinomialExtensionField F 4 → BinomialExtensionField F 4
    product = polynomial_product r w

    product-commutes : (x y : BinomialExtensionField F 4) → product x y ≡ product y x
    product-commutes =
        by-four _ (λ a b c d. by-four _ (λ e f g h.
        product-four a b c d e f g h
        ∙ coefficients-injective _ _
        (same-items (ap r.of (omega arith)) (ap r.of (omega arith)) (ap r.of (omega arith)) (ap r.of (omega arith)))
        ∙ sym (product-four e f g h a b c d)))

    -- three factors may be taken in turn
    product-turns : (x y z : BinomialExtensionField F 4) → product (product x y) z ≡ product (product y z) x
    product-turns =
        by-four _ (λ a b c d. by-four _ (λ e f g h. by-four _ (λ i j k l.
        ap (λ p. product p (four i j k l)) (product-four a b c d e f g h)
        ∙ product-numbers _ _ _ _ i j k l
        ∙ coefficients-injective _ _
        (same-items (ap r.of (omega arith)) (ap r.of (omega arith)) (ap r.of (omega arith)) (ap r.of (omega arith)))
        ∙ sym (product-numbers _ _ _ _ a b c d)
        ∙ sym (ap (λ p. product p (four a b c d)) (product-four e f g h i j k l)))))

    product-associates : (x y z : BinomialExtensionField F 4) → product (product x y) z ≡ product x (product y z)
    product-associates x y z = product-turns x y z ∙ product-commutes (product y z) x

    product-sum : (x y z : BinomialExtensionField F 4) → product x (polynomial_sum r y z) ≡ polynomial_sum r (product x y) (product x z)
    product-sum =
        by-four _ (λ a b c d. by-four _ (λ e f g h. by-four _ (λ i j k l.
        let x = four a b c d in
        let y = four e f g h in
        let z = four i j k l in
        let sums = (residues-ring r laws).sum_of_numbers in
        product-commutes x (polynomial_sum r y z)
        ∙ ap (λ s. product s x) (coefficients-injective (polynomial_sum r y z) (four _ _ _ _) refl)
        ∙ product-numbers (n e + n i) (n f + n j) (n g + n k) (n h + n l) a b c d
        ∙ coefficients-injective _ (polynomial_sum r (four _ _ _ _) (four _ _ _ _))
        (same-items (ap r.of (omega arith) ∙ sym (sums _ _)) (ap r.of (omega arith) ∙ sym (sums _ _))
        (ap r.of (omega arith) ∙ sym (sums _ _)) (ap r.of (omega arith) ∙ sym (sums _ _)))
        ∙ ap₂ (polynomial_sum r)
        (sym (product-four e f g h a b c d) ∙ product-commutes y x)
        (sym (product-four i j k l a b c d) ∙ product-commutes z x))))

    constant-four : (e : F) → constant r e ≡ four e (r.of 0) (r.of 0) (r.of 0)
    constant-four e = coefficients-injective _ _ refl

    no-times : (k : ℕ) → r.of (k * n (r.of 0)) ≡ r.of 0
    no-times k = of-products k k (n (r.of 0)) 0 refl (its 0) ∙ ap r.of (omega arith)

    product-constant : (a b c d e : F) → product (four a b c d) (constant r e)
        ≡ four (product_of r a e) (product_of r b e) (product_of r c e) (product_of r d e)
    product-constant a b c d e =
        let o = r.of 0 in
        let wo = no-times (n w) in
        let none = its 0 in
        ap (product (four a b c d)) (constant-four e)
        ∙ product-four a b c d e o o o
        ∙ coefficients-injective _ _
        (same-items
        (of-combined _ _ _ _ (n a) (n b) (n c) (n d) _ _ _ _ (n e) 0 0 0 refl refl refl refl refl wo wo wo ∙ ap r.of (omega arith))
        (of-combined _ _ _ _ (n a) (n b) (n c) (n d) _ _ _ _ 0 (n e) 0 0 refl refl refl refl none refl wo wo ∙ ap r.of (omega arith))
        (of-combined _ _ _ _ (n a) (n b) (n c) (n d) _ _ _ _ 0 0 (n e) 0 refl refl refl refl none none refl wo ∙ ap r.of (omega arith))
        (of-combined _ _ _ _ (n a) (n b) (n c) (n d) _ _ _ _ 0 0 0 (n e) refl refl refl refl none none none refl ∙ ap r.of (omega arith)))

    product-root : (e f g h : F) → product (root r) (four e f g h) ≡ four (product_of r w h) e f g
    product-root e f g h =
        ap (λ p. product p (four e f g h)) (coefficients-injective (root r) (four _ _ _ _) refl)
        ∙ product-numbers 0 1 0 0 e f g h
        ∙ coefficients-injective _ _
        (same-items (ap r.of (omega arith)) (ap r.of (omega arith) ∙ laws.of_number e) (ap r.of (omega arith) ∙ laws.of_number f)
        (ap r.of (omega arith) ∙ laws.of_number g))

    power-root : polynomial_power {D = 4} r w (root r) 4 ≡ constant r w
    power-root =
        let ring = residues-ring r laws in
        let o = r.of 0 in
        let u = r.of 1 in
        let v = product_of r w o in
        let times = product (root r) in
        ap (λ p. times (times (times (times p)))) (constant-four u)
        ∙ ap (λ p. times (times (times p))) (product-root u o o o)
        ∙ ap (λ p. times (times p)) (product-root v u o o)
        ∙ ap times (product-root v v u o)
        ∙ product-root v v v u
        ∙ coefficients-injective _ _
        (same-items (ring.product_with_one w) (ring.product_with_zero w) (ring.product_with_zero w) (ring.product_with_zero w))
        ∙ sym (constant-four w)

    -- the polynomials are a ring
    pub extension-ring : IsExtension 4 r w
    extension-ring =
        let ring = residues-ring r laws in
        record {
          sum_commutes = by-four _ (λ a b c d. by-four _ (λ e f g h.
              coefficients-injective _ _
              (same-items (ring.sum_commutes a e) (ring.sum_commutes b f) (ring.sum_commutes c g) (ring.sum_commutes d h))));
          sum_associates = by-four _ (λ a b c d. by-four _ (λ e f g h. by-four _ (λ i j k l.
              coefficients-injective _ _
              (same-items (ring.sum_associates a e i) (ring.sum_associates b f j) (ring.sum_associates c g k)
              (ring.sum_associates d h l)))));
          sum_with_zero = by-four _ (λ a b c d.
              coefficients-injective _ _
              (same-items (ring.sum_with_zero a) (ring.sum_with_zero b) (ring.sum_with_zero c) (ring.sum_with_zero d)));
          taken_and_added = by-four _ (λ a b c d. by-four _ (λ e f g h.
              coefficients-injective _ _
              (same-items (ring.taken_and_added a e) (ring.taken_and_added b f) (ring.taken_and_added c g)
              (ring.taken_and_added d h))));
          added_and_taken = by-four _ (λ a b c d. by-four _ (λ e f g h.
              coefficients-injective _ _
              (same-items (ring.added_and_taken a e) (ring.added_and_taken b f) (ring.added_and_taken c g)
              (ring.added_and_taken d h))));
          product_commutes = product-commutes;
          product_associates = product-associates;
          product_with_one = by-four _ (λ a b c d.
              product-constant a b c d (r.of 1)
              ∙ coefficients-injective _ _
              (same-items (ring.product_with_one a) (ring.product_with_one b) (ring.product_with_one c) (ring.product_with_one d)));
          product_with_sum = product-sum;
          sum_of_constants = λ a b.
              coefficients-injective _ _
              (same-items refl (ring.sum_with_zero (r.of 0)) (ring.sum_with_zero (r.of 0)) (ring.sum_with_zero (r.of 0)));
          product_of_constants = λ a b.
              let none : product_of r (r.of 0) b ≡ r.of 0 = ring.product_commutes (r.of 0) b ∙ ring.product_with_zero b in
              ap (λ p. product p (constant r b)) (constant-four a)
              ∙ product-constant a (r.of 0) (r.of 0) (r.of 0) b
              ∙ coefficients-injective _ _ (same-items refl none none none);
          power_of_root = power-root;
        }
