-- A number's digits in base 16, in two parts, and those of bytes.
use Rattle.std.proofs.Common.{◌≡◌, ℕ, zero, suc, ◌+◌, ◌-◌, ◌*◌, ◌/◌, ◌%◌, ◌^◌, ◌<◌, ◌≤◌, false, List, [], ◌∷◌, ◌++◌}
use Rattle.std.proofs.Common.{length, replicate, slice_index, refl, sym, ap, ◌∙◌, inl, inr, lit<, arith, append_assoc}
use Rattle.std.proofs.{Common.{append-nil, eq-eqb, ne_eqb, pow-suc}, lemmas.Bool.cases_lt, lemmas.List.length-append}
use Rattle.std.{proofs.Math.Nat.{mul_left_comm, mul-pos}, proofs.lemmas.Bool.Decides.nat_tests, specs.Str.IsAscii}
use Rattle.std.specs.Fmt.{digit_glyph, digits, digits_onto, padded_integral, format_spec, char_count}
use Rattle.hex.specs.Hex.{lower_digits, encode_with, encode_lower}
use Rattle.p3_challenger_core.specs.Reading.{AreBytes}
use Rattle.p3_fs_core.specs.StepTexts.{hex_number, hex_text}

-- the digit of a number below 16
abbrev glyph : ℕ → ℕ
glyph d = digit_glyph false d

-- at most so many digits of a number, before others
abbrev onto : ℕ → ℕ → List ℕ → List ℕ
onto k n acc = digits_onto k 16 false n acc

-- just so many of its last digits, before others
abbrev low_digits : ℕ → ℕ → List ℕ → List ℕ
low_digits zero n acc = acc
low_digits (suc k) n acc = low_digits k (n / 16) (glyph (n % 16) ∷ acc)

-- ---- one digit more

onto-last : (k n : ℕ) (acc : List ℕ) → n / 16 ≡ 0 → onto (suc k) n acc ≡ glyph (n % 16) ∷ acc
onto-last k n acc none = rw (eq-eqb (n / 16) 0 none)

onto-more : (k n : ℕ) (acc : List ℕ) → (n / 16 ≡ 0 → ⊥) → onto (suc k) n acc ≡ onto k (n / 16) (glyph (n % 16) ∷ acc)
onto-more k n acc some = rw (ne_eqb (n / 16) 0 some)

sixteen_times : (k : ℕ) → 16 ^ suc k ≡ 16 * 16 ^ k
sixteen_times k = omega (arith, pow-suc 16 k)

sixteen_positive : (k : ℕ) → 0 < 16 ^ k
sixteen_positive zero = lit< tt
sixteen_positive (suc k) = omega (arith, sixteen_times k, sixteen_positive k)

-- what is left of a number of two digits and more needs room
room_left : (k n : ℕ) → 16 ≤ n → n / 16 < 16 ^ k → 0 < k
room_left zero n many fits = absurd (omega (arith, many, fits))
room_left (suc k) n many fits = omega arith

-- more room than a number needs makes no difference
onto-room : (i j n : ℕ) (acc : List ℕ) → 0 < i → n < 16 ^ i → 0 < j → n < 16 ^ j → onto i n acc ≡ onto j n acc
onto-room zero j n acc some fits more wide = absurd (omega (arith, some))
onto-room (suc i) zero n acc some fits more wide = absurd (omega (arith, more))
onto-room (suc i) (suc j) n acc some fits more wide =
    grind (arith, nat_tests, sixteen_times, room_left, onto-room i j (n / 16) (glyph (n % 16) ∷ acc))

-- digits before others are the digits, and then the others
onto-append : (k n : ℕ) (acc : List ℕ) → onto k n acc ≡ onto k n [] ++ acc
onto-append zero n acc = refl
onto-append (suc k) n acc = elim (cases_lt n 16) [
  | inl one ↦
      let none : n / 16 ≡ 0 = omega (arith, one) in
      onto-last k n acc none ∙ ap (λ ds. ds ++ acc) (sym (onto-last k n [] none))
  | inr two ↦
      let many : n / 16 ≡ 0 → ⊥ = λ e. omega (arith, two, e) in
      let digit = glyph (n % 16) in
      let front = onto k (n / 16) [] in
      onto-more k n acc many
      ∙ onto-append k (n / 16) (digit ∷ acc)
      ∙ sym (append_assoc front (digit ∷ []) acc)
      ∙ ap (λ ds. ds ++ acc) (sym (onto-append k (n / 16) (digit ∷ [])))
      ∙ ap (λ ds. ds ++ acc) (sym (onto-more k n [] many))
]

low_digits-append : (k n : ℕ) (acc : List ℕ) → low_digits k n acc ≡ low_digits k n [] ++ acc
low_digits-append zero n acc = refl
low_digits-append (suc k) n acc =
    let digit = glyph (n % 16) in
    low_digits-append k (n / 16) (digit ∷ acc)
    ∙ sym (append_assoc (low_digits k (n / 16) []) (digit ∷ []) acc)
    ∙ ap (λ ds. ds ++ acc) (sym (low_digits-append k (n / 16) (digit ∷ [])))

-- ---- the low part

zeros-push : (k : ℕ) (acc : List ℕ) → replicate k 48 ++ 48 ∷ acc ≡ 48 ∷ replicate k 48 ++ acc
zeros-push zero acc = refl
zeros-push (suc k) acc = ap (λ ds. 48 ∷ ds) (zeros-push k acc)

-- the last digits of 0 are zeros
low_digits-zero : (k : ℕ) (acc : List ℕ) → low_digits k 0 acc ≡ replicate k 48 ++ acc
low_digits-zero zero acc = refl
low_digits-zero (suc k) acc = low_digits-zero k (48 ∷ acc) ∙ zeros-push k acc

-- a number's digits, with zeros in front up to a width, are its last digits
filled : (k j n : ℕ) → 0 < k → k ≤ j → n < 16 ^ k → replicate (k - length (onto j n [])) 48 ++ onto j n []
    ≡ low_digits k n []
filled zero j n some room fits = absurd (omega (arith, some))
filled (suc k) zero n some room fits = absurd (omega (arith, room))
filled (suc k) (suc j) n some room fits = elim (cases_lt n 16) [
  | inl one ↦
      let none : n / 16 ≡ 0 = omega (arith, one) in
      let digit = glyph (n % 16) in
      let missing : suc k - 1 ≡ k = omega arith in
      ap (λ ds. replicate (suc k - length ds) 48 ++ ds) (onto-last j n [] none)
      ∙ ap (λ m. replicate m 48 ++ digit ∷ []) missing
      ∙ sym (low_digits-zero k (digit ∷ []))
      ∙ ap (λ m. low_digits k m (digit ∷ [])) (sym none)
  | inr two ↦
      let many : n / 16 ≡ 0 → ⊥ = λ e. omega (arith, two, e) in
      let digit = glyph (n % 16) in
      let front = onto j (n / 16) [] in
      let left : n / 16 < 16 ^ k = omega (arith, fits, sixteen_times k) in
      let parts : onto (suc j) n [] ≡ front ++ digit ∷ [] = onto-more j n [] many
      ∙ onto-append j (n / 16) (digit ∷ []) in
      let missing : suc k - length (front ++ digit ∷ []) ≡ k - length front =
      omega (arith, length-append front (digit ∷ [])) in
      ap (λ ds. replicate (suc k - length ds) 48 ++ ds) parts
      ∙ ap (λ m. replicate m 48 ++ (front ++ digit ∷ [])) missing
      ∙ sym (append_assoc (replicate (k - length front) 48) front (digit ∷ []))
      ∙ ap (λ ds. ds ++ digit ∷ []) (filled k j (n / 16) (room_left k n two left) (omega (arith, room)) left)
      ∙ sym (low_digits-append k (n / 16) (digit ∷ []))
]

-- ---- both parts

-- the digits of a number with a high part are those of the high part, and then the low ones
joined : (k j high low : ℕ) (acc : List ℕ) → 0 < high → low < 16 ^ k →
    onto (k + j) (high * 16 ^ k + low) acc ≡ onto j high (low_digits k low acc)
joined zero j high low acc some fits =
    let room : 0 + j ≡ j = omega arith in
    let number : high * 16 ^ 0 + low ≡ high = omega (arith, fits) in
    ap (λ i. onto i (high * 16 ^ 0 + low) acc) room ∙ ap (λ n. onto j n acc) number
joined (suc k) j high low acc some fits =
    let power = sixteen_times k in
    let n = high * 16 ^ suc k + low in
    let whole : n ≡ 16 * (high * 16 ^ k) + low = ap (λ m. m + low) (ap (λ m. high * m) power
    ∙ mul_left_comm high 16 (16 ^ k)) in
    let front : n / 16 ≡ high * 16 ^ k + low / 16 = omega (arith, whole) in
    let last : n % 16 ≡ low % 16 = omega (arith, whole) in
    let above : 0 < high * 16 ^ k = mul-pos some (sixteen_positive k) in
    let many : n / 16 ≡ 0 → ⊥ = λ e. omega (arith, front, e, above) in
    let room : suc k + j ≡ suc (k + j) = omega arith in
    ap (λ i. onto i n acc) room
    ∙ onto-more (k + j) n acc many
    ∙ ap (λ m. onto (k + j) m (glyph (n % 16) ∷ acc)) front
    ∙ ap (λ d. onto (k + j) (high * 16 ^ k + low / 16) (glyph d ∷ acc)) last
    ∙ joined k j high (low / 16) (glyph (low % 16) ∷ acc) some (omega (arith, fits, power))

-- what `{:016x}` writes of 64 bits
abbrev pub sixteen_wide : ℕ → List ℕ
sixteen_wide n = padded_integral (format_spec 32 0 4 16 (2 ^ 64 - 1)) false [] (digits 16 false n)

-- zeros in front of digits up to a width, as a hole writes them
zeros_filled : (width : ℕ) (ds : List ℕ) → padded_integral (format_spec 32 0 4 width (2 ^ 64 - 1)) false [] ds
    ≡ replicate (width - length ds) 48 ++ ds
unfolding padded_integral char_count
zeros_filled width ds =
    let missing : width - length ds - 0 - 0 ≡ width - length ds = omega arith in
    ap (λ m. replicate m 48 ++ (ds ++ [])) missing
    ∙ ap (λ back. replicate (width - length ds) 48 ++ back) (append-nil ds)

sixteen_wide-is : (n : ℕ) → n < 2 ^ 64 → sixteen_wide n ≡ low_digits 16 n []
unfolding digits
sixteen_wide-is n fits = zeros_filled 16 (onto 64 n []) ∙ filled 16 64 n (lit< tt) (lit< tt) (omega (arith, fits))

-- 128 bits are written as two parts of 64, where the high part is not 0
pub hex_number-parts : (high low : ℕ) → 0 < high → high < 2 ^ 64 → low < 2 ^ 64 →
    hex_number (high * 2 ^ 64 + low) ≡ hex_number high ++ sixteen_wide low
unfolding digits
hex_number-parts high low some fits small =
    joined 16 48 high low [] some (omega (arith, small))
    ∙ onto-append 48 high (low_digits 16 low [])
    ∙ ap (λ ds. ds ++ low_digits 16 low []) (onto-room 48 64 high [] (omega arith) (omega (arith, fits)) (omega arith)
    (omega (arith, fits)))
    ∙ ap (λ ds. onto 64 high [] ++ ds) (sym (sixteen_wide-is low small))

-- ---- the digits of bytes

-- a digit is that of the table
glyph-of_table : (d : ℕ) → d < 16 → slice_index lower_digits d ≡ glyph d
glyph-of_table zero fits = refl
glyph-of_table (suc zero) fits = refl
glyph-of_table (suc (suc zero)) fits = refl
glyph-of_table (suc (suc (suc zero))) fits = refl
glyph-of_table (suc (suc (suc (suc zero)))) fits = refl
glyph-of_table (suc (suc (suc (suc (suc zero))))) fits = refl
glyph-of_table (suc (suc (suc (suc (suc (suc zero)))))) fits = refl
glyph-of_table (suc (suc (suc (suc (suc (suc (suc zero))))))) fits = refl
glyph-of_table (suc (suc (suc (suc (suc (suc (suc (suc zero)))))))) fits = refl
glyph-of_table (suc (suc (suc (suc (suc (suc (suc (suc (suc zero))))))))) fits = refl
glyph-of_table (suc (suc (suc (suc (suc (suc (suc (suc (suc (suc zero)))))))))) fits = refl
glyph-of_table (suc (suc (suc (suc (suc (suc (suc (suc (suc (suc (suc zero))))))))))) fits = refl
glyph-of_table (suc (suc (suc (suc (suc (suc (suc (suc (suc (suc (suc (suc zero)))))))))))) fits = refl
glyph-of_table (suc (suc (suc (suc (suc (suc (suc (suc (suc (suc (suc (suc (suc zero))))))))))))) fits = refl
glyph-of_table (suc (suc (suc (suc (suc (suc (suc (suc (suc (suc (suc (suc (suc (suc zero)))))))))))))) fits = refl
glyph-of_table (suc (suc (suc (suc (suc (suc (suc (suc (suc (suc (suc (suc (suc (suc (suc zero))))))))))))))) fits =
    refl
glyph-of_table (suc (suc (suc (suc (suc (suc (suc (suc (suc (suc (suc (suc (suc (suc (suc (suc d)))))))))))))))) fits =
    absurd (omega (arith, fits))

-- a byte's digits in the table are those of its text
pub hex_text-of_table : (bytes : List ℕ) → AreBytes bytes → encode_lower bytes ≡ hex_text bytes
unfolding encode_with
hex_text-of_table [] are = refl
hex_text-of_table (byte ∷ bytes) are =
    let fits : byte < 256 = are zero in
    ap (λ d. d ∷ slice_index lower_digits (byte % 16) ∷ encode_lower bytes)
    (glyph-of_table (byte / 16) (omega (arith, fits)))
    ∙ ap (λ d. glyph (byte / 16) ∷ d ∷ encode_lower bytes) (glyph-of_table (byte % 16) (omega arith))
    ∙ ap (λ ds. glyph (byte / 16) ∷ glyph (byte % 16) ∷ ds) (hex_text-of_table bytes (λ i. are (suc i)))

glyph-ascii : (d : ℕ) → d < 16 → glyph d < 128
glyph-ascii d fits = grind (arith, nat_tests)

pub hex_text-ascii : (bytes : List ℕ) → AreBytes bytes → IsAscii (hex_text bytes)
hex_text-ascii [] are i = lit< tt
hex_text-ascii (byte ∷ bytes) are zero = glyph-ascii (byte / 16) (let fits : byte < 256 = are zero in
    omega (arith, fits))
hex_text-ascii (byte ∷ bytes) are (suc zero) = glyph-ascii (byte % 16) (omega arith)
hex_text-ascii (byte ∷ bytes) are (suc (suc i)) = hex_text-ascii bytes (λ j. are (suc j)) i
