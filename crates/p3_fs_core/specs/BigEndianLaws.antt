-- Laws of numbers as bytes, highest first.
use Rattle.std.proofs.Math.Nat.{zero-add, suc-add, div-div-eq-div-mul, div-eq_of_lt, div-one, mod-lt, lt-mul-div-succ}
use Rattle.std.proofs.{lemmas.{Bool.cases_lt, Nat.{pow_pos, pow-add, be_bytes_8}}, Common.{◌≡◌, ℕ, zero, suc, ◌<◌, ◌≤◌}}
use Rattle.std.proofs.Common.{◌+◌, ◌-◌, ◌*◌, ◌/◌, ◌%◌, ◌^◌, List, [], ◌∷◌, ◌++◌, length, take, drop, replicate}
use Rattle.std.proofs.Common.{append-nil, refl, sym, ap, ◌∙◌, subst, inl, inr, lit<, arith, pow-suc, pow_mono}
use Rattle.std.{proofs.Math.Seq.{take-append_seam, drop-append_seam}, specs.Int.{w64, byte_at, from_be_bytes}}
use Rattle.std.proofs.lemmas.List.{length-append, length-replicate, length-drop, take-replicate, take_all, drop_all}
use Rattle.p3_challenger_core.specs.Reading.{AreBytes}
use Rattle.p3_fs_core.specs.BigEndian.{big_endian, big_endian_after, in_bytes, bytes_for}

-- ---- the bytes of a number

-- a byte of a number, as a digit
byte_at-digit : (k n : ℕ) → byte_at k n ≡ n / 256 ^ k % 256
byte_at-digit zero n = ap (λ m. m % 256) (sym (div-one n))
byte_at-digit (suc k) n = refl

quotient-suc : (k n : ℕ) → n / 256 ^ suc k ≡ n / 256 ^ k / 256
quotient-suc k n = ap (λ m. n / m) (pow-suc 256 k) ∙ sym (div-div-eq-div-mul n (256 ^ k) 256)

-- the number above k bytes is the number above k + 1 bytes, followed by one byte
pub one_more : (k n : ℕ) → 256 * (n / 256 ^ suc k) + byte_at k n ≡ n / 256 ^ k
one_more k n = omega (arith, quotient-suc k n, byte_at-digit k n)

-- the lowest bytes of a number, after the number above them, encode the number
after-in_bytes : (k n : ℕ) → big_endian_after (n / 256 ^ k) (in_bytes k n) ≡ n
after-in_bytes zero n = div-one n
after-in_bytes (suc k) n = ap (λ m. big_endian_after m (in_bytes k n)) (one_more k n) ∙ after-in_bytes k n

-- the bytes of a number that fits in them encode the number
pub big_endian-in_bytes : (k n : ℕ) → n < 256 ^ k → big_endian (in_bytes k n) ≡ n
big_endian-in_bytes k n fits =
    ap (λ m. big_endian_after m (in_bytes k n)) (sym (div-eq_of_lt fits)) ∙ after-in_bytes k n

pub length-in_bytes : (k n : ℕ) → length (in_bytes k n) ≡ k
length-in_bytes zero n = refl
length-in_bytes (suc k) n = ap suc (length-in_bytes k n)

byte_at-below : (k n : ℕ) → byte_at k n < 256
byte_at-below k n = subst (λ (m : ℕ). m < 256) (sym (byte_at-digit k n)) (mod-lt (n / 256 ^ k) (lit< tt))

pub AreBytes-in_bytes : (k n : ℕ) → AreBytes (in_bytes k n)
AreBytes-in_bytes zero n i = lit< tt
AreBytes-in_bytes (suc k) n zero = byte_at-below k n
AreBytes-in_bytes (suc k) n (suc i) = AreBytes-in_bytes k n i

-- the bytes that remain after the highest ones are dropped
pub drop-in_bytes : (j k n : ℕ) → drop j (in_bytes (j + k) n) ≡ in_bytes k n
drop-in_bytes zero k n = ap (λ m. in_bytes m n) (zero-add k)
drop-in_bytes (suc j) k n = ap (λ m. drop (suc j) (in_bytes m n)) (suc-add j k) ∙ drop-in_bytes j k n

-- bytes before others, and the others
pub take-front : {A : Type 0} (k : ℕ) (xs ys : List A) → length xs ≡ k → take k (xs ++ ys) ≡ xs
take-front k xs ys is = subst (λ (n : ℕ). take n (xs ++ ys) ≡ xs) is (take-append_seam xs ys)

pub drop-front : {A : Type 0} (k : ℕ) (xs ys : List A) → length xs ≡ k → drop k (xs ++ ys) ≡ ys
drop-front k xs ys is = subst (λ (n : ℕ). drop n (xs ++ ys) ≡ ys) is (drop-append_seam xs ys)

-- equally long prefixes of one list are equal, and so are the rests
pub front-prefix_code : {A : Type 0} (xs ys a b : List A) → length xs ≡ length ys → xs ++ a ≡ ys ++ b → (xs ≡ ys)
    × (a ≡ b)
front-prefix_code xs ys a b same e =
    let k = length ys in (
      sym (take-front k xs a same) ∙ ap (take k) e ∙ take-append_seam ys b,
      sym (drop-front k xs a same) ∙ ap (drop k) e ∙ drop-append_seam ys b,
    )

-- ---- the number of bytes

-- a prefix of bytes is bytes
pub AreBytes-take : (n : ℕ) (bytes : List ℕ) → AreBytes bytes → AreBytes (take n bytes)
AreBytes-take zero bytes h i = lit< tt
AreBytes-take (suc n) [] h i = lit< tt
AreBytes-take (suc n) (byte ∷ bytes) h zero = h zero
AreBytes-take (suc n) (byte ∷ bytes) h (suc i) = AreBytes-take n bytes (λ j. h (suc j)) i

pub AreBytes-drop : (n : ℕ) (bytes : List ℕ) → AreBytes bytes → AreBytes (drop n bytes)
AreBytes-drop zero bytes h = h
AreBytes-drop (suc n) [] h = h
AreBytes-drop (suc n) (byte ∷ bytes) h = AreBytes-drop n bytes (λ j. h (suc j))

-- a number followed by k bytes, divided by 256^k, is that number
after-div : (a : ℕ) (bytes : List ℕ) → AreBytes bytes → big_endian_after a bytes / 256 ^ length bytes ≡ a
after-div a [] h = div-one a
after-div a (byte ∷ bytes) h =
    let above = quotient-suc (length bytes) (big_endian_after (256 * a + byte) bytes) in
    omega (arith, above, after-div (256 * a + byte) bytes (λ j. h (suc j)), h zero)

-- bytes are determined by their number
in_bytes-after : (a : ℕ) (bytes : List ℕ) → AreBytes bytes → in_bytes (length bytes) (big_endian_after a bytes) ≡ bytes
in_bytes-after a [] h = refl
in_bytes-after a (byte ∷ bytes) h =
    let n = big_endian_after (256 * a + byte) bytes in
    let first : byte_at (length bytes) n ≡ byte =
    omega (arith, byte_at-digit (length bytes) n, after-div (256 * a + byte) bytes (λ j. h (suc j)), h zero) in
    let others = in_bytes-after (256 * a + byte) bytes (λ j. h (suc j)) in cc

pub in_bytes-big_endian : (k : ℕ) (bytes : List ℕ) → length bytes ≡ k → AreBytes bytes →
    in_bytes k (big_endian bytes) ≡ bytes
in_bytes-big_endian k bytes is h =
    subst (λ (n : ℕ). in_bytes n (big_endian bytes) ≡ bytes) is (in_bytes-after 0 bytes h)

eight_more : (k : ℕ) → 8 * k + 8 ≡ 8 * suc k
eight_more k = omega arith

-- k bytes are 8k bits
pub power_of_bytes : (k : ℕ) → 256 ^ k ≡ 2 ^ (8 * k)
power_of_bytes zero = refl
power_of_bytes (suc k) =
    pow-suc 256 k
    ∙ ap (λ m. m * 256) (power_of_bytes k)
    ∙ sym (pow-add 2 (8 * k) 8)
    ∙ ap (λ m. 2 ^ m) (eight_more k)

power_positive : (k : ℕ) → 0 < 256 ^ k
power_positive k = subst (λ (m : ℕ). 0 < m) (sym (power_of_bytes k)) (pow_pos (8 * k))

-- the number of k bytes is below 256^k
pub big_endian-below : (bytes : List ℕ) → AreBytes bytes → big_endian bytes < 256 ^ length bytes
big_endian-below bytes h =
    let n = big_endian bytes in
    let below = lt-mul-div-succ n (power_positive (length bytes)) in
    let once = rw (after-div 0 bytes h) at below in omega (arith, once)

-- ---- how many bytes bits take

-- a number with a given bit length fits in the bytes that its bits take
pub fits-bytes_for : (bits n : ℕ) → n < 2 ^ bits → n < 256 ^ bytes_for bits
fits-bytes_for bits n fits =
    let enough : bits ≤ 8 * bytes_for bits = omega arith in
    let grown : 2 ^ bits ≤ 2 ^ (8 * bytes_for bits) = pow_mono enough in
    let power = power_of_bytes (bytes_for bits) in
    omega arith

-- a number whose highest bit is not 0 fits in no fewer bytes
pub bytes_for-least : (bits n width : ℕ) → 2 ^ bits ≤ 2 * n + 1 → n < 256 ^ width → bytes_for bits ≤ width
bytes_for-least bits n width high fits = elim (cases_lt (8 * width) bits) [
  | inl more ↦
      let grown : 2 ^ (8 * width + 1) ≤ 2 ^ bits = pow_mono (omega (arith, more)) in
      let double : 2 ^ (8 * width + 1) ≡ 2 ^ (8 * width) * 2 = pow-add 2 (8 * width) 1 in
      let power = power_of_bytes width in
      absurd (omega arith)
  | inr enough ↦ omega arith
]

-- ---- zeros in front

-- leading zeros do not change the number of bytes
pub big_endian-zeros : (k : ℕ) (bytes : List ℕ) → big_endian (replicate k 0 ++ bytes) ≡ big_endian bytes
big_endian-zeros zero bytes = refl
big_endian-zeros (suc k) bytes = big_endian-zeros k bytes

AreBytes-zeros : (k : ℕ) (bytes : List ℕ) → AreBytes bytes → AreBytes (replicate k 0 ++ bytes)
AreBytes-zeros zero bytes h i = h i
AreBytes-zeros (suc k) bytes h zero = lit< tt
AreBytes-zeros (suc k) bytes h (suc i) = AreBytes-zeros k bytes h i

-- eight bytes with leading zeros, as a machine reads them
pub number_of_padded : (bytes padded : List ℕ) (n : ℕ) → length bytes ≤ 8 → AreBytes bytes →
    padded ≡ replicate (8 - length bytes) 0 ++ bytes → n < 2 ^ 64 → n ≡ from_be_bytes w64 padded → n ≡ big_endian bytes
number_of_padded bytes padded n short are_bytes is fits read =
    let k = 8 - length bytes in
    let zeros = replicate k 0 ++ bytes in
    let eight : length zeros ≡ 8 = omega (arith, length-append (replicate k 0) bytes, length-replicate {A = ℕ} k 0) in
    let encoded : in_bytes 8 n ≡ zeros = be_bytes_8 zeros n eight (AreBytes-zeros k bytes are_bytes) (read
    ∙ ap (from_be_bytes w64) is) in
    sym (big_endian-in_bytes 8 n fits) ∙ ap big_endian encoded ∙ big_endian-zeros k bytes

-- a machine word of zeros whose last bytes are overwritten
pub written_after : (k : ℕ) (back bytes : List ℕ) → k ≤ 8 → back ≡ bytes →
    take k (replicate 8 0) ++ (back ++ drop (8 - k) (drop k (replicate 8 0))) ≡ replicate k 0 ++ bytes
written_after k back bytes small is =
    let zeros : List ℕ = replicate 8 0 in
    let rest : List ℕ = drop k zeros in
    let following : length rest ≤ 8 - k = omega (arith, length-drop k zeros) in
    ap (λ front. front ++ (back ++ drop (8 - k) rest)) (take-replicate k 8 0 small)
    ∙ ap (λ end. replicate k 0 ++ (back ++ end)) (drop_all (8 - k) rest following)
    ∙ ap (λ end. replicate k 0 ++ end) (append-nil back ∙ is)

-- the bytes of a number in the end of a machine word
pub drop-word : (width n : ℕ) → width ≤ 8 → drop (8 - width) (in_bytes 8 n) ≡ in_bytes width n
drop-word width n small =
    let split : 8 ≡ 8 - width + width = omega arith in
    ap (λ k. drop (8 - width) (in_bytes k n)) split ∙ drop-in_bytes (8 - width) width n

-- the end of a machine word that holds a number of fewer bytes
pub word_end : (width k n m : ℕ) (word : List ℕ) → k ≡ width → k ≤ 8 → m ≡ n → word ≡ in_bytes 8 m →
    take (8 - (8 - k)) (drop (8 - k) word) ≡ in_bytes width n
word_end width k n m word same small number is =
    let end : drop (8 - k) word ≡ in_bytes k m = ap (drop (8 - k)) is ∙ drop-word k m small in
    let whole : length (in_bytes k m) ≤ 8 - (8 - k) = omega (arith, length-in_bytes k m) in
    ap (take (8 - (8 - k))) end
    ∙ take_all (8 - (8 - k)) (in_bytes k m) whole
    ∙ ap (λ w. in_bytes w m) same
    ∙ ap (in_bytes width) number
