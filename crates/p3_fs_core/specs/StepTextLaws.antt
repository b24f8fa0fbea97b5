-- Laws of the texts of steps: the text of a step determines the step.
use Rattle.std.proofs.Common.{◌≡◌, ℕ, ◌+◌, ◌*◌, ◌≤◌, ◌<◌, ◌^◌, ◌/◌, ◌%◌, false, List, [], ◌∷◌, ◌++◌, drop, slice_index}
use Rattle.std.proofs.{Common.{codes, append_assoc, refl, sym, ap, ◌∙◌, lit<, arith}, lemmas.Bool.Decides.nat_tests}
use Rattle.std.{proofs.lemmas.Fmt.digits_is_IsNumeral, specs.{Char.digit_value, Fmt.{decimal, digits, digit_glyph}}}
use Rattle.std.specs.Str.Parse.{AllDigits, digits_value}
use Rattle.p3_challenger_core.specs.{Reading.{IsPrefixCode, IsPrefixCodeOn, IsByte}, SymbolLaws.bytes-prefix_code}
use Rattle.p3_fs_core.specs.{StepFits.{FitsLength, IsEnd, FitsTag}, StepTexts.{algebra_end, type_tag_text}}
use Rattle.p3_fs_core.specs.StepTexts.{hierarchy_text, kind_text, length_text, hex_byte_text}
use Rattle.p3_fs_core.specs.declared.step.{Hierarchy.TheVariants.{Atomic, Begin, End}, Kind.TheVariants.Protocol}
use Rattle.p3_fs_core.specs.declared.step.Kind.TheVariants.{Public, Message, Hint, Challenge, Pow, Salt}
use Rattle.p3_fs_core.specs.declared.step.Length.TheVariants.{None, Scalar, Fixed, Bounded}
use Rattle.p3_fs_core.specs.declared.step.TypeTag.TheVariants.{Marker, Bytes, Algebra, BinaryTower, BinaryPolynomial}
use Rattle.p3_fs_core.specs.declared.step.TypeTag.TheVariants.{Opaque, Bits, UniformBits}

-- ---- numbers

-- a text does not begin with another digit
abbrev pub EndsDigits : ℕ → List ℕ → Type 0
EndsDigits base text = base ≤ digit_value (slice_index text 0)

-- digits end where no digit follows
digits-prefix_code : (base : ℕ) (xs ys a b : List ℕ) → AllDigits base xs → AllDigits base ys → EndsDigits base a →
    EndsDigits base b → xs ++ a ≡ ys ++ b → (xs ≡ ys) × (a ≡ b)
digits-prefix_code base [] [] a b x_are y_are a_ends b_ends e = (refl, e)
digits-prefix_code base [] (y ∷ ys) a b x_are y_are a_ends b_ends e =
    absurd (omega (arith, a_ends, y_are.0, ap (λ text. digit_value (slice_index text 0)) e))
digits-prefix_code base (x ∷ xs) [] a b x_are y_are a_ends b_ends e =
    absurd (omega (arith, b_ends, x_are.0, ap (λ text. digit_value (slice_index text 0)) e))
digits-prefix_code base (x ∷ xs) (y ∷ ys) a b x_are y_are a_ends b_ends e =
    let others = digits-prefix_code base xs ys a b x_are.1 y_are.1 a_ends b_ends (cc) in (cc, others.1)

number-prefix_code : (base m n : ℕ) (a b : List ℕ) → 2 ≤ base → base ≤ 16 → m < base ^ 64 → n < base ^ 64 →
    EndsDigits base a → EndsDigits base b → digits base false m ++ a ≡ digits base false n ++ b → (m ≡ n) × (a ≡ b)
number-prefix_code base m n a b low high m_fits n_fits a_ends b_ends e =
    let first = digits_is_IsNumeral base false low high m m_fits in
    let second = digits_is_IsNumeral base false low high n n_fits in
    let parts = digits-prefix_code base _ _ a b first.0.1 second.0.1 a_ends b_ends e in
    (sym first.1 ∙ ap (digits_value base) parts.0 ∙ second.1, parts.1)

-- a number in decimal is determined by its text, where no digit follows
pub decimal-prefix_code : (m n : ℕ) (a b : List ℕ) → m < 2 ^ 128 → n < 2 ^ 128 → EndsDigits 10 a → EndsDigits 10 b →
    decimal m ++ a ≡ decimal n ++ b → (m ≡ n) × (a ≡ b)
decimal-prefix_code m n a b m_fits n_fits a_ends b_ends e =
    number-prefix_code 10 m n a b (lit< tt) (lit< tt) (omega (arith, m_fits)) (omega (arith, n_fits)) a_ends b_ends e

-- a number in decimal, and the text after it
number_part : (base m n : ℕ) (x y a b : List ℕ) → 2 ≤ base → base ≤ 16 → m < base ^ 64 → n < base ^ 64 →
    EndsDigits base (x ++ a) → EndsDigits base (y ++ b) →
    (digits base false m ++ x) ++ a ≡ (digits base false n ++ y) ++ b → (m ≡ n) × (x ++ a ≡ y ++ b)
number_part base m n x y a b low high m_fits n_fits a_ends b_ends e =
    number-prefix_code base m n (x ++ a) (y ++ b) low high m_fits n_fits a_ends b_ends (simp append_assoc at e)

-- a number in decimal, and the closing parenthesis after it
closed-prefix_code : (m n : ℕ) (a b : List ℕ) → m < 2 ^ 64 → n < 2 ^ 64 →
    (decimal m ++ codes ")") ++ a ≡ (decimal n ++ codes ")") ++ b → (m ≡ n) × (a ≡ b)
closed-prefix_code m n a b m_fits n_fits e =
    let parts = number_part 10 m n _ _ a b (lit< tt) (lit< tt) (omega (arith, m_fits)) (omega (arith, n_fits))
    (lit< tt) (lit< tt) e in
    (parts.0, ap (drop 1) parts.1)

-- ---- bytes

glyph-injective : (d e : ℕ) → d < 16 → e < 16 → digit_glyph false d ≡ digit_glyph false e → d ≡ e
glyph-injective d e d_fits e_fits same = grind (arith, nat_tests)

hex_byte-prefix_code : IsPrefixCodeOn IsByte hex_byte_text
hex_byte-prefix_code x y a b x_is y_is e =
    let high : x / 16 ≡ y / 16 = glyph-injective (x / 16) (y / 16) (omega (arith, x_is)) (omega (arith, y_is)) (cc) in
    let low : x % 16 ≡ y % 16 = glyph-injective (x % 16) (y % 16) (omega arith) (omega arith) (cc) in
    (omega (arith, high, low), cc)

-- ---- words: two letters tell them apart

pub hierarchy-prefix_code : IsPrefixCode hierarchy_text
hierarchy-prefix_code Atomic Atomic a b e = (refl, ap (drop 6) e)
hierarchy-prefix_code Begin Begin a b e = (refl, ap (drop 5) e)
hierarchy-prefix_code End End a b e = (refl, ap (drop 3) e)
hierarchy-prefix_code _ _ a b e = absurd (omega (arith, ap (λ text. slice_index text 0) e))

pub kind-prefix_code : IsPrefixCode kind_text
kind-prefix_code Protocol Protocol a b e = (refl, ap (drop 8) e)
kind-prefix_code Public Public a b e = (refl, ap (drop 6) e)
kind-prefix_code Message Message a b e = (refl, ap (drop 7) e)
kind-prefix_code Hint Hint a b e = (refl, ap (drop 4) e)
kind-prefix_code Challenge Challenge a b e = (refl, ap (drop 9) e)
kind-prefix_code Pow Pow a b e = (refl, ap (drop 3) e)
kind-prefix_code Salt Salt a b e = (refl, ap (drop 4) e)
kind-prefix_code _ _ a b e = absurd (omega (arith, ap (λ text. 256 * slice_index text 0 + slice_index text 1) e))

-- the text of a length determines it, whatever follows
pub length-prefix_code : IsPrefixCodeOn FitsLength length_text
length-prefix_code None None a b x_fits y_fits e = (refl, ap (drop 4) e)
length-prefix_code Scalar Scalar a b x_fits y_fits e = (refl, ap (drop 6) e)
length-prefix_code (Fixed m) (Fixed n) a b x_fits y_fits e =
    let parts = closed-prefix_code m n a b x_fits y_fits (ap (drop 6) e) in (ap Fixed parts.0, parts.1)
length-prefix_code (Bounded m) (Bounded n) a b x_fits y_fits e =
    let parts = closed-prefix_code m n a b x_fits y_fits (ap (drop 8) e) in (ap Bounded parts.0, parts.1)
length-prefix_code _ _ a b x_fits y_fits e = absurd (omega (arith, ap (λ text. slice_index text 0) e))

-- ---- tags

end-prefix_code : (d k : ℕ) (xs ys a b : List ℕ) → IsEnd d xs → IsEnd k ys →
    algebra_end d xs ++ a ≡ algebra_end k ys ++ b → (d ≡ k) × (xs ≡ ys) × (a ≡ b)
end-prefix_code d k xs ys a b x_is y_is e =
    let degrees = number_part 10 d k _ _ a b (lit< tt) (lit< tt) (omega (arith, x_is.0)) (omega (arith, y_is.0))
    (lit< tt) (lit< tt) (ap (drop 1) e) in
    let same = bytes-prefix_code hex_byte_text hex_byte-prefix_code xs ys (codes ")" ++ a) (codes ")" ++ b) x_is.2 y_is.2
    (x_is.1 ∙ sym y_is.1) (simp append_assoc at (ap (drop 1) degrees.1)) in
    (degrees.0, same.0, ap (drop 1) same.1)

-- the text of a tag determines it, whatever follows: the letters 0, 3 and 6 identify the variant
pub type_tag-prefix_code : IsPrefixCodeOn FitsTag type_tag_text
type_tag-prefix_code Marker Marker a b x_fits y_fits e = (refl, ap (drop 6) e)
type_tag-prefix_code Bytes Bytes a b x_fits y_fits e = (refl, ap (drop 5) e)
type_tag-prefix_code (Algebra m d xs) (Algebra n k ys) a b x_fits y_fits e =
    let moduli = number_part 10 m n _ _ a b (lit< tt) (lit< tt) (omega (arith, x_fits.0)) (omega (arith, y_fits.0))
    (lit< tt) (lit< tt) (ap (drop 8) e) in
    let ends = end-prefix_code d k xs ys a b x_fits.1 y_fits.1 moduli.1 in
    (λ i. Algebra (moduli.0 i) (ends.0 i) (ends.1 i), ends.2)
type_tag-prefix_code (BinaryTower m d xs) (BinaryTower n k ys) a b x_fits y_fits e =
    let bits = number_part 10 m n _ _ a b (lit< tt) (lit< tt) (omega (arith, x_fits.0)) (omega (arith, y_fits.0))
    (lit< tt) (lit< tt) (ap (drop 12) e) in
    let ends = end-prefix_code d k xs ys a b x_fits.1 y_fits.1 bits.1 in
    (λ i. BinaryTower (bits.0 i) (ends.0 i) (ends.1 i), ends.2)
type_tag-prefix_code (BinaryPolynomial c m d xs) (BinaryPolynomial j n k ys) a b x_fits y_fits e =
    let bits = number_part 10 c j _ _ a b (lit< tt) (lit< tt) (omega (arith, x_fits.0)) (omega (arith, y_fits.0))
    (lit< tt) (lit< tt) (ap (drop 17) e) in
    let moduli = number_part 16 m n _ _ a b (lit< tt) (lit< tt) (omega (arith, x_fits.1)) (omega (arith, y_fits.1))
    (lit< tt) (lit< tt) (ap (drop 3) bits.1) in
    let ends = end-prefix_code d k xs ys a b x_fits.2 y_fits.2 moduli.1 in
    (λ i. BinaryPolynomial (bits.0 i) (moduli.0 i) (ends.0 i) (ends.1 i), ends.2)
type_tag-prefix_code Opaque Opaque a b x_fits y_fits e = (refl, ap (drop 6) e)
type_tag-prefix_code (Bits m) (Bits n) a b x_fits y_fits e =
    let parts = closed-prefix_code m n a b x_fits y_fits (ap (drop 5) e) in (ap Bits parts.0, parts.1)
type_tag-prefix_code (UniformBits m) (UniformBits n) a b x_fits y_fits e =
    let parts = closed-prefix_code m n a b x_fits y_fits (ap (drop 12) e) in (ap UniformBits parts.0, parts.1)
type_tag-prefix_code _ _ a b x_fits y_fits e =
    absurd (omega (
      arith,
      ap (λ text. 256 * slice_index text 0 + slice_index text 3) e,
      ap (λ text. slice_index text 6) e,
    ))
