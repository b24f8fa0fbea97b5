-- The forms of values that may be sent are prefix codes, and what stands after their first byte.
use Rattle.std.proofs.Common.{ℕ, ◌≡◌, ◌<◌, List, [], ◌∷◌, ◌++◌, length, append-nil, sym, ap, ◌∙◌, arith}
use Rattle.p3_challenger.specs.Values.{Value}
use Rattle.tealmuze_calls.specs.{Readings.{FitsWord, IsListHeld}, Told.IsSendable}
use Rattle.tealmuze_calls.specs.Forms.{number_bytes, counted_bytes, listed_bytes, scalar_bytes, element_bytes, value_bytes}
use Rattle.tealmuze_calls.proofs.Codes.{IsCodeOn, number-code, counted-code, row-code, listed-code}
use Rattle.p3_challenger.specs.Values as value

-- what stands after the first byte of a value, by that byte
pub data ValueView {F EF : Type 0} (number : F → ℕ) (coefficients : EF → List F) (what : ℕ) (rest left : List ℕ) :
    Type 0 where
  OfBytes : what ≡ 0 → (bytes : List ℕ) → FitsWord (length bytes) → rest ≡ counted_bytes bytes ++ left →
      ValueView number coefficients what rest left
  OfScalar : what ≡ 1 → (x : F) → rest ≡ number_bytes (number x) ++ left → ValueView number coefficients what rest left
  OfScalars : what ≡ 2 → (xs : List F) → FitsWord (length xs) →
      rest ≡ listed_bytes (scalar_bytes number coefficients) xs ++ left → ValueView number coefficients what rest left
  OfExtension : what ≡ 3 → (x : EF) → rest ≡ element_bytes number coefficients x ++ left →
      ValueView number coefficients what rest left

module _ {F EF : Type 0} (number : F → ℕ) (coefficients : EF → List F) where
  pub value_view : (v : Value F EF) (bytes rest left : List ℕ) (what : ℕ) → IsSendable v →
      bytes ≡ value_bytes number coefficients v ++ left → bytes ≡ what ∷ rest → ValueView number coefficients what rest left
  value_view (value.Bytes b) bytes rest left what may is here =
      let e = sym here ∙ is in
      let w : what ≡ 0 = cc e in let r : rest ≡ counted_bytes b ++ left = cc e in OfBytes w b may r
  value_view (value.Scalar x) bytes rest left what may is here =
      let e = sym here ∙ is in
      let w : what ≡ 1 = cc e in let r : rest ≡ number_bytes (number x) ++ left = cc e in OfScalar w x r
  value_view (value.Scalars xs) bytes rest left what may is here =
      let e = sym here ∙ is in
      let w : what ≡ 2 = cc e in
      let r : rest ≡ listed_bytes (scalar_bytes number coefficients) xs ++ left = cc e in OfScalars w xs may r
  value_view (value.Extension x) bytes rest left what may is here =
      let e = sym here ∙ is in
      let w : what ≡ 3 = cc e in
      let r : rest ≡ element_bytes number coefficients x ++ left = cc e in OfExtension w x r
  value_view value.Nothing bytes rest left what may is here = absurd may
  value_view (value.Witness x) bytes rest left what may is here = absurd may

  -- some byte stands there
  pub value_some : (v : Value F EF) (bytes left : List ℕ) → IsSendable v →
      bytes ≡ value_bytes number coefficients v ++ left → bytes ≡ [] → ⊥
  value_some (value.Bytes b) bytes left may is nothing = cc
  value_some (value.Scalar x) bytes left may is nothing = cc
  value_some (value.Scalars xs) bytes left may is nothing = cc
  value_some (value.Extension x) bytes left may is nothing = cc
  value_some value.Nothing bytes left may is nothing = absurd may
  value_some (value.Witness x) bytes left may is nothing = absurd may

module _ {F EF : Type 0} (number : F → ℕ) (coefficients : EF → List F) (what : ℕ) (rest left : List ℕ) where
  pub bytes_in : what ≡ 0 → ValueView number coefficients what rest left →
      (bytes : List ℕ) × (FitsWord (length bytes)) × (rest ≡ counted_bytes bytes ++ left)
  bytes_in is (OfBytes w b fits r) = (b, fits, r)
  bytes_in is (OfScalar w x r) = absurd (omega (arith, is, w))
  bytes_in is (OfScalars w xs fits r) = absurd (omega (arith, is, w))
  bytes_in is (OfExtension w x r) = absurd (omega (arith, is, w))

  pub scalar_in : what ≡ 1 → ValueView number coefficients what rest left → (x : F) × (rest ≡ number_bytes (number x) ++ left)
  scalar_in is (OfBytes w b fits r) = absurd (omega (arith, is, w))
  scalar_in is (OfScalar w x r) = (x, r)
  scalar_in is (OfScalars w xs fits r) = absurd (omega (arith, is, w))
  scalar_in is (OfExtension w x r) = absurd (omega (arith, is, w))

  pub scalars_in : what ≡ 2 → ValueView number coefficients what rest left →
      (xs : List F) × (FitsWord (length xs)) × (rest ≡ listed_bytes (scalar_bytes number coefficients) xs ++ left)
  scalars_in is (OfBytes w b fits r) = absurd (omega (arith, is, w))
  scalars_in is (OfScalar w x r) = absurd (omega (arith, is, w))
  scalars_in is (OfScalars w xs fits r) = (xs, fits, r)
  scalars_in is (OfExtension w x r) = absurd (omega (arith, is, w))

  pub extension_in : what ≡ 3 → ValueView number coefficients what rest left →
      (x : EF) × (rest ≡ element_bytes number coefficients x ++ left)
  extension_in is (OfBytes w b fits r) = absurd (omega (arith, is, w))
  extension_in is (OfScalar w x r) = absurd (omega (arith, is, w))
  extension_in is (OfScalars w xs fits r) = absurd (omega (arith, is, w))
  extension_in is (OfExtension w x r) = (x, r)

  pub below_four : ValueView number coefficients what rest left → what < 4
  below_four (OfBytes w b fits r) = omega (arith, w)
  below_four (OfScalar w x r) = omega (arith, w)
  below_four (OfScalars w xs fits r) = omega (arith, w)
  below_four (OfExtension w x r) = omega (arith, w)

module _ {F EF : Type 0} (number : F → ℕ) (coefficients : EF → List F) (dimension : ℕ) (fits : (x : F) → FitsWord (number x))
    (same_number : (x y : F) → number x ≡ number y → x ≡ y) (long : (x : EF) → length (coefficients x) ≡ dimension)
    (same_coefficients : (x y : EF) → coefficients x ≡ coefficients y → x ≡ y) where
  scalar-code : IsCodeOn (λ (x : F). Unit {0}) (scalar_bytes number coefficients)
  scalar-code x y a b one other e =
      let both = number-code (number x) (number y) a b (fits x) (fits y) e in (same_number x y both.0, both.1)

  pub value-code : IsCodeOn IsSendable (value_bytes number coefficients)
  value-code (value.Bytes x) (value.Bytes y) a b m n e =
      let r : counted_bytes x ++ a ≡ counted_bytes y ++ b = cc e in
      let both = counted-code x y a b m n r in (ap (λ z. value.Bytes z) both.0, both.1)
  value-code (value.Scalar x) (value.Scalar y) a b m n e =
      let r : number_bytes (number x) ++ a ≡ number_bytes (number y) ++ b = cc e in
      let both = scalar-code x y a b tt tt r in (ap (λ z. value.Scalar z) both.0, both.1)
  value-code (value.Scalars x) (value.Scalars y) a b m n e =
      let scalar = scalar_bytes number coefficients in
      let r : listed_bytes scalar x ++ a ≡ listed_bytes scalar y ++ b = cc e in
      let both = listed-code (λ x. Unit {0}) scalar scalar-code x y a b (record { count = m; each = λ k d less. tt })
      (record { count = n; each = λ k d less. tt }) r in (ap (λ z. value.Scalars z) both.0, both.1)
  value-code (value.Extension x) (value.Extension y) a b m n e =
      let scalar = scalar_bytes number coefficients in
      let r : element_bytes number coefficients x ++ a ≡ element_bytes number coefficients y ++ b = cc e in
      let both = row-code (λ x. Unit {0}) scalar scalar-code (coefficients x) (coefficients y) a b (λ k d less. tt)
      (λ k d less. tt) (long x ∙ sym (long y)) r in
      (ap (λ z. value.Extension z) (same_coefficients x y both.0), both.1)
  value-code (value.Bytes x) (value.Scalar y) a b m n e = let no : ⊥ = cc e in absurd no
  value-code (value.Bytes x) (value.Scalars y) a b m n e = let no : ⊥ = cc e in absurd no
  value-code (value.Bytes x) (value.Extension y) a b m n e = let no : ⊥ = cc e in absurd no
  value-code (value.Scalar x) (value.Bytes y) a b m n e = let no : ⊥ = cc e in absurd no
  value-code (value.Scalar x) (value.Scalars y) a b m n e = let no : ⊥ = cc e in absurd no
  value-code (value.Scalar x) (value.Extension y) a b m n e = let no : ⊥ = cc e in absurd no
  value-code (value.Scalars x) (value.Bytes y) a b m n e = let no : ⊥ = cc e in absurd no
  value-code (value.Scalars x) (value.Scalar y) a b m n e = let no : ⊥ = cc e in absurd no
  value-code (value.Scalars x) (value.Extension y) a b m n e = let no : ⊥ = cc e in absurd no
  value-code (value.Extension x) (value.Bytes y) a b m n e = let no : ⊥ = cc e in absurd no
  value-code (value.Extension x) (value.Scalar y) a b m n e = let no : ⊥ = cc e in absurd no
  value-code (value.Extension x) (value.Scalars y) a b m n e = let no : ⊥ = cc e in absurd no
  value-code (value.Bytes x) value.Nothing a b m n e = absurd n
  value-code (value.Bytes x) (value.Witness y) a b m n e = absurd n
  value-code (value.Scalar x) value.Nothing a b m n e = absurd n
  value-code (value.Scalar x) (value.Witness y) a b m n e = absurd n
  value-code (value.Scalars x) value.Nothing a b m n e = absurd n
  value-code (value.Scalars x) (value.Witness y) a b m n e = absurd n
  value-code (value.Extension x) value.Nothing a b m n e = absurd n
  value-code (value.Extension x) (value.Witness y) a b m n e = absurd n
  value-code value.Nothing y a b m n e = absurd m
  value-code (value.Witness x) y a b m n e = absurd m

  -- bytes encode one list of values
  pub same_values : (bytes : List ℕ) (xs ys : List (Value F EF)) → IsListHeld IsSendable xs → IsListHeld IsSendable ys →
      bytes ≡ listed_bytes (value_bytes number coefficients) xs → bytes ≡ listed_bytes (value_bytes number coefficients) ys →
      xs ≡ ys
  same_values bytes xs ys xs_held ys_held xs_are ys_are =
      let form = value_bytes number coefficients in
      (listed-code IsSendable form value-code xs ys [] [] xs_held ys_held (append-nil (listed_bytes form xs)
      ∙ sym xs_are ∙ ys_are ∙ sym (append-nil (listed_bytes form ys)))).0
