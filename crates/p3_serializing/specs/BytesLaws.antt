-- Laws of numbers as bytes.
use Rattle.std.proofs.Common.{◌≡◌, ℕ, zero, suc, ◌<◌, ◌≤◌, ◌/◌, ◌%◌, ◌^◌, List, [], ◌∷◌, length, refl, sym, ap}
use Rattle.std.specs.Int.{w32, w64, byte_at, bytes_low_first, to_le_bytes, from_le_bytes}
use Rattle.p3_serializing.specs.Bytes.{bytes_of, number_of}
use Rattle.std.proofs.{Common.{◌∙◌, arith, pow-suc}, Math.Nat.{div-one, div-div-eq-div-mul}}

-- the next byte up
next_byte : (i x : ℕ) → x / 256 ^ i / 256 ≡ x / 256 ^ suc i
next_byte i x = div-div-eq-div-mul x (256 ^ i) 256 ∙ ap (λ p. x / p) (sym (pow-suc 256 i))

byte_at-is : (i x : ℕ) → byte_at i x ≡ x / 256 ^ i % 256
byte_at-is zero x = ap (λ n. n % 256) (sym (div-one x))
byte_at-is (suc i) x = refl

low_first-is : (i n x : ℕ) → bytes_low_first i n x ≡ bytes_of n (x / 256 ^ i)
unfolding bytes_of
low_first-is i zero x = refl
low_first-is i (suc n) x =
    ap (λ b. b ∷ bytes_low_first (suc i) n x) (byte_at-is i x)
    ∙ ap (λ bs. x / 256 ^ i % 256 ∷ bs) (low_first-is (suc i) n x ∙ ap (bytes_of n) (sym (next_byte i x)))

-- the bytes of a machine word
low_first-from_start : (n x : ℕ) → bytes_low_first 0 n x ≡ bytes_of n x
low_first-from_start n x = low_first-is 0 n x ∙ ap (bytes_of n) (div-one x)

pub bytes_of_4 : (x : ℕ) → to_le_bytes w32 x ≡ bytes_of 4 x
bytes_of_4 x = low_first-from_start 4 x

pub bytes_of_8 : (x : ℕ) → to_le_bytes w64 x ≡ bytes_of 8 x
bytes_of_8 x = low_first-from_start 8 x

pub length-bytes_of : (n x : ℕ) → length (bytes_of n x) ≡ n
unfolding bytes_of
length-bytes_of zero x = refl
length-bytes_of (suc n) x = ap suc (length-bytes_of n (x / 256))

-- numbers with the same bytes, equally many, are equal
pub bytes_of-injective : (n x y : ℕ) → x < 256 ^ n → y < 256 ^ n → bytes_of n x ≡ bytes_of n y → x ≡ y
unfolding bytes_of
bytes_of-injective zero x y x_fits y_fits same = omega (arith, x_fits, y_fits)
bytes_of-injective (suc n) x y x_fits y_fits same =
    let power = pow-suc 256 n in
    let x_less : x / 256 < 256 ^ n = omega (arith, power, x_fits) in
    let y_less : y / 256 < 256 ^ n = omega (arith, power, y_fits) in
    let low : x % 256 ≡ y % 256 = cc in
    let others : bytes_of n (x / 256) ≡ bytes_of n (y / 256) = cc in
    let high = bytes_of-injective n (x / 256) (y / 256) x_less y_less others in
    omega (arith, low, high)

-- the number of a machine word's bytes
pub number_of_4 : (bytes : List ℕ) → length bytes ≡ 4 → from_le_bytes w32 bytes ≡ number_of bytes
unfolding number_of
number_of_4 (a ∷ b ∷ c ∷ d ∷ []) whole = omega arith
number_of_4 _ whole = absurd (omega (arith, whole))

pub number_of_8 : (bytes : List ℕ) → length bytes ≡ 8 → from_le_bytes w64 bytes ≡ number_of bytes
unfolding number_of
number_of_8 (a ∷ b ∷ c ∷ d ∷ e ∷ f ∷ g ∷ h ∷ []) whole = omega arith
number_of_8 _ whole = absurd (omega (arith, whole))

-- ---- the order of a field

pub fits_4 : (order : ℕ) → order < 2 ^ 32 → order ≤ 256 ^ 4
fits_4 order fits = omega (arith, fits)

pub fits_8 : (order : ℕ) → order < 2 ^ 64 → order ≤ 256 ^ 8
fits_8 order fits = omega (arith, fits)

-- at most eight bytes fit in memory
pub bytes_fit : (n : ℕ) → n ≤ 8 → n < 2 ^ 63
bytes_fit n short = omega (arith, short)
