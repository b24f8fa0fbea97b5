-- Laws of the symbols fed to a multi-field challenger: they determine the values.
use Rattle.std.proofs.Common.{◌≡◌, ℕ, List, [], ◌∷◌, ◌++◌, length, map, refl, ap, ◌∙◌, arith}
use Rattle.p3_challenger_core.specs.Reading.{IsPrefixCode, IsPrefixCodeOn}
use Rattle.p3_multi_field.specs.MultiFieldCalls.{Symbol, scalar, digest}

module _ {F PF : Type 0} where
  -- a scalar is one symbol
  pub scalar-prefix_code : IsPrefixCode {T = F} {S = Symbol F PF} (λ x. scalar x ∷ [])
  scalar-prefix_code x y a b e =
      let same : ◌≡◌ {A = F × List (Symbol F PF)} (x, a) (y, b) = cc in
      (ap (λ p. p.0) same, ap (λ p. p.1) same)

  scalars-read : (xs ys : List F) (a b : List (Symbol F PF)) → length xs ≡ length ys
      → map scalar xs ++ a ≡ map scalar ys ++ b → (xs ≡ ys) × (a ≡ b)
  scalars-read [] [] a b same e = (refl, e)
  scalars-read [] (y ∷ ys) a b same e = absurd (omega (arith, same))
  scalars-read (x ∷ xs) [] a b same e = absurd (omega (arith, same))
  scalars-read (x ∷ xs) (y ∷ ys) a b same e =
      let first = scalar-prefix_code x y (map scalar xs ++ a) (map scalar ys ++ b) e in
      let fewer : length xs ≡ length ys = omega (arith, same) in
      let others = scalars-read xs ys a b fewer first.1 in
      (ap (λ z. z ∷ xs) first.0 ∙ ap (λ zs. y ∷ zs) others.0, others.1)

  -- equally many scalars are a prefix code
  pub scalars-prefix_code : (N : ℕ)
      → IsPrefixCodeOn {T = List F} {S = Symbol F PF} (λ xs. length xs ≡ N) (λ xs. map scalar xs)
  scalars-prefix_code N xs ys a b x_is y_is e =
      let same : length xs ≡ length ys = omega (arith, x_is, y_is) in scalars-read xs ys a b same e

  -- a digest is one symbol, which its words determine
  pub digest-prefix_code : {X : Type 0} (words : X → List PF) → ((x y : X) → words x ≡ words y → x ≡ y)
      → IsPrefixCode {T = X} {S = Symbol F PF} (λ x. digest (words x) ∷ [])
  digest-prefix_code words tells x y a b e =
      let same : ◌≡◌ {A = List PF × List (Symbol F PF)} (words x, a) (words y, b) = cc in
      (tells x y (ap (λ p. p.0) same), ap (λ p. p.1) same)
