-- Laws of byte strings as elements of a field.
use Rattle.std.proofs.Common.{◌≡◌, ℕ, zero, suc, ◌<◌, ◌≤◌, ◌+◌, ◌-◌, ◌*◌, ◌/◌, ◌^◌, List, [], ◌∷◌, ◌++◌, length, map}
use Rattle.std.proofs.Common.{take, drop, min, replicate, append-nil, inl, inr, refl, sym, ap, ◌∙◌, lit<}
use Rattle.std.proofs.{Common.{arith, pow-suc, pow_mono}, Math.Nat.div-one, lemmas.Nat.{pow-add, le_bytes_8}}
use Rattle.std.proofs.Math.Nat.{mul_comm, mul_assoc, lt-mul-div-succ, add-mul-div_left, div-eq_of_lt, div-eq_of_lt-le}
use Rattle.std.proofs.lemmas.{List.{take-append-drop, take_all, drop_all, drop-replicate, length-append}, Bool.cases_lt}
use Rattle.std.proofs.lemmas.List.{length-replicate, length-take, length-drop, nil_from_length}
use Rattle.std.specs.Int.{w64, byte_at, bytes_low_first, from_le_bytes}
use Rattle.p3_field_core.specs.{Residues.{Residues, IsResidues}, ResidueLaws.of-injective}
use Rattle.p3_challenger_core.specs.Reading.{IsPrefixCodeOn, OneBegins, AreBytes}
use Rattle.p3_fs_core.specs.BigEndianLaws.{AreBytes-take, AreBytes-drop, one_more, take-front, drop-front}
use Rattle.p3_fs_core.specs.{BigEndianLaws.power_of_bytes, AlphabetLaws.begins_itself}
use Rattle.p3_fs_core.specs.Packing.{little_endian, chunk_bytes, chunk_count, first_chunks, chunks, packed, IsPackable}

-- ---- numbers of bytes

-- the number of k bytes is below 256^k
pub little_endian-below : (bytes : List ℕ) → AreBytes bytes → little_endian bytes < 256 ^ length bytes
little_endian-below [] h = lit< tt
little_endian-below (byte ∷ bytes) h =
    let below = little_endian-below bytes (λ i. h (suc i)) in omega (arith, pow-suc 256 (length bytes), h zero, below)

-- equally many bytes with the same number are the same
pub little_endian-injective : (a b : List ℕ) → AreBytes a → AreBytes b → length a ≡ length b →
    little_endian a ≡ little_endian b → a ≡ b
little_endian-injective [] [] a_are b_are same e = refl
little_endian-injective (x ∷ a) (y ∷ b) a_are b_are same e =
    let byte : x ≡ y = omega (arith, a_are zero, b_are zero, e) in
    let rest : little_endian a ≡ little_endian b = omega (arith, a_are zero, b_are zero, e) in
    let fewer : length a ≡ length b = omega (arith, same) in
    let others = little_endian-injective a b (λ i. a_are (suc i)) (λ i. b_are (suc i)) fewer rest in cc
little_endian-injective _ _ a_are b_are same e = absurd (omega (arith, same))

-- ---- a machine word, the lowest byte first

once : (n : ℕ) → 0 + 1 * n ≡ n
once n = omega arith

gathered : (byte rest high : ℕ) → byte + 256 * rest + 256 * high ≡ 256 * (rest + high) + byte
gathered byte rest high = omega arith

regrouped : (byte rest power high : ℕ) → byte + 256 * rest + power * 256 * high ≡ 256 * (rest + power * high) + byte
regrouped byte rest power high =
    let product : power * 256 * high ≡ 256 * (power * high) = ap (λ p. p * high) (mul_comm power 256)
    ∙ mul_assoc 256 power high in
    ap (λ m. byte + 256 * rest + m) product ∙ gathered byte rest (power * high)

low_first : (i k n : ℕ) → little_endian (bytes_low_first i k n) + 256 ^ k * (n / 256 ^ (i + k)) ≡ n / 256 ^ i
low_first i zero n =
    let place : i + 0 ≡ i = omega arith in
    ap (λ m. 0 + 1 * (n / 256 ^ m)) place ∙ once (n / 256 ^ i)
low_first i (suc k) n =
    let rest = little_endian (bytes_low_first (suc i) k n) in
    let high = n / 256 ^ (suc i + k) in
    let place : i + suc k ≡ suc i + k = omega arith in
    let power : 256 ^ suc k ≡ 256 ^ k * 256 = pow-suc 256 k in
    ap (λ m. byte_at i n + 256 * rest + 256 ^ suc k * (n / 256 ^ m)) place
    ∙ ap (λ p. byte_at i n + 256 * rest + p * high) power
    ∙ regrouped (byte_at i n) rest (256 ^ k) high
    ∙ ap (λ m. 256 * m + byte_at i n) (low_first (suc i) k n)
    ∙ one_more i n

-- a number is the number of its bytes
little_endian-word : (n : ℕ) → n < 2 ^ 64 → little_endian (bytes_low_first 0 8 n) ≡ n
little_endian-word n fits =
    let whole = low_first 0 8 n in
    let none : n / 256 ^ 8 ≡ 0 = div-eq_of_lt fits in
    let itself : n / 256 ^ 0 ≡ n = div-one n in
    omega (arith, whole, none, itself)

little_endian-zeros : (k : ℕ) → little_endian (replicate k 0) ≡ 0
little_endian-zeros zero = refl
little_endian-zeros (suc k) = ap (λ n. 0 + 256 * n) (little_endian-zeros k)

-- trailing zeros do not change the number of bytes, lowest first
little_endian-padded : (bytes : List ℕ) (k : ℕ) → little_endian (bytes ++ replicate k 0) ≡ little_endian bytes
little_endian-padded [] k = little_endian-zeros k
little_endian-padded (byte ∷ bytes) k = ap (λ n. byte + 256 * n) (little_endian-padded bytes k)

AreBytes-padded : (bytes : List ℕ) (k : ℕ) → AreBytes bytes → AreBytes (bytes ++ replicate k 0)
AreBytes-padded [] zero h i = lit< tt
AreBytes-padded [] (suc k) h zero = lit< tt
AreBytes-padded [] (suc k) h (suc i) = AreBytes-padded [] k h i
AreBytes-padded (byte ∷ bytes) k h zero = h zero
AreBytes-padded (byte ∷ bytes) k h (suc i) = AreBytes-padded bytes k (λ j. h (suc j)) i

-- eight bytes with trailing zeros, as a machine reads them
pub number_of_filled : (bytes filled : List ℕ) (n : ℕ) → length bytes ≤ 8 → AreBytes bytes →
    filled ≡ bytes ++ replicate (8 - length bytes) 0 → n < 2 ^ 64 → n ≡ from_le_bytes w64 filled →
    n ≡ little_endian bytes
number_of_filled bytes filled n short are_bytes is fits read =
    let k = 8 - length bytes in
    let zeros = bytes ++ replicate k 0 in
    let eight : length zeros ≡ 8 = omega (arith, length-append bytes (replicate k 0), length-replicate {A = ℕ} k 0) in
    let encoded : bytes_low_first 0 8 n ≡ zeros = le_bytes_8 zeros n eight (AreBytes-padded bytes k are_bytes) (read
    ∙ ap (from_le_bytes w64) is) in
    sym (little_endian-word n fits) ∙ ap little_endian encoded ∙ little_endian-padded bytes k

-- a machine word of zeros whose first bytes are overwritten
pub written_before : (front bytes : List ℕ) → front ≡ bytes → front ++ drop (length bytes) (replicate 8 0)
    ≡ bytes ++ replicate (8 - length bytes) 0
written_before front bytes is =
    ap (λ l. l ++ drop (length bytes) (replicate 8 0)) is
    ∙ ap (λ l. bytes ++ l) (drop-replicate {X = ℕ} (length bytes) 8 0)

-- the number of a chunk is below the order of the field
pub chunk-below : (bits order size : ℕ) → 2 ^ bits ≤ 2 * order → 0 < bits → size ≤ chunk_bytes bits → 256 ^ size ≤ order
chunk-below bits order size least positive short =
    let grown : 2 ^ (8 * size + 1) ≤ 2 ^ bits = pow_mono (omega (arith, positive, short)) in
    omega (arith, grown, pow-add 2 (8 * size) 1, power_of_bytes size, least)

-- ---- chunks

pub chunk_bytes-positive : (bits order : ℕ) → 256 < order → order < 2 ^ bits → 0 < chunk_bytes bits
chunk_bytes-positive bits order above fits = elim (cases_lt 8 bits) [
  | inl more ↦ omega (arith, more)
  | inr few ↦
      let grown : 2 ^ bits ≤ 2 ^ 8 = pow_mono few in
      absurd (omega (arith, grown, above, fits))
]

count-more : (size len : ℕ) → 0 < size → 0 < len → chunk_count size len ≡ suc (chunk_count size (len - size))
count-more size len positive some = elim (cases_lt len size) [
  | inl short ↦
      let one : chunk_count size len ≡ 1 =
      div-eq_of_lt-le size (omega (arith, positive, some)) (omega (arith, short, positive)) in
      let rest : len - size + (size - 1) < size = omega (arith, short, positive) in
      one ∙ sym (ap suc (div-eq_of_lt rest))
  | inr long ↦
      let split : len + (size - 1) ≡ len - size + (size - 1) + size * 1 = omega (arith, long) in
      let counted = add-mul-div_left (len - size + (size - 1)) 1 positive in
      let next : (len - size + (size - 1)) / size + 1 ≡ suc ((len - size + (size - 1)) / size) = omega arith in
      ap (λ k. k / size) split ∙ counted ∙ next
]

-- a chunk has the full size, or it is the last
cut_off : (size : ℕ) (chunk rest all : List ℕ) → length chunk ≡ min size (length all) → all ≡ chunk ++ rest →
    (take size (chunk ++ rest) ≡ chunk) × (drop size (chunk ++ rest) ≡ rest)
cut_off size chunk rest all short parts = elim (cases_lt (length all) size) [
  | inl last ↦
      let none : length rest ≡ 0 = omega (arith, short, last, ap length parts, length-append chunk rest) in
      let empty = nil_from_length rest none in
      let whole : length (chunk ++ rest) ≤ size = omega (arith, last, ap length parts) in (
        take_all size (chunk ++ rest) whole ∙ ap (λ l. chunk ++ l) empty ∙ append-nil chunk,
        drop_all size (chunk ++ rest) whole ∙ sym empty,
      )
  | inr full ↦
      let long : length chunk ≡ size = omega (arith, short, full) in
      (take-front size chunk rest long, drop-front size chunk rest long)
]

-- the first chunk, and the chunks of the rest
pub chunks-step : (size : ℕ) (all chunk rest : List ℕ) → 0 < size → 0 < length all → all ≡ chunk ++ rest →
    length chunk ≡ min size (length all) → chunks size all ≡ chunk ∷ chunks size rest
unfolding first_chunks
chunks-step size all chunk rest positive some parts short =
    let following : length rest ≡ length all - size = omega (arith, short, ap length parts, length-append chunk rest) in
    let count : chunk_count size (length all) ≡ suc (chunk_count size (length rest)) =
    count-more size (length all) positive some ∙ ap (λ k. suc (chunk_count size k)) (sym following) in
    let cut = cut_off size chunk rest all short parts in
    let front : take size all ≡ chunk = ap (take size) parts ∙ cut.0 in
    let end : drop size all ≡ rest = ap (drop size) parts ∙ cut.1 in
    ap (λ k. first_chunks size k all) count
    ∙ ap (λ c. c ∷ first_chunks size (chunk_count size (length rest)) (drop size all)) front
    ∙ ap (λ l. chunk ∷ first_chunks size (chunk_count size (length rest)) l) end

pub chunks-end : (size : ℕ) (all : List ℕ) → 0 < size → length all ≡ 0 → chunks size all ≡ []
unfolding first_chunks
chunks-end size all positive none =
    let below : length all + (size - 1) < size = omega (arith, none, positive) in
    ap (λ k. first_chunks size k all) (div-eq_of_lt below)

pub power_grows : (i j : ℕ) → i ≤ j → 256 ^ i ≤ 256 ^ j
power_grows i j less =
    let grown : 2 ^ (8 * i) ≤ 2 ^ (8 * j) = pow_mono (omega (arith, less)) in
    omega (arith, grown, power_of_bytes i, power_of_bytes j)

-- the chunks hold all bytes
pub chunks-enough : (size len : ℕ) → 0 < size → len ≤ chunk_count size len * size
chunks-enough size len positive =
    let q = chunk_count size len in
    let below : len + (size - 1) < size * (q + 1) = lt-mul-div-succ (len + (size - 1)) positive in
    let product : size * (q + 1) ≡ q * size + size = omega arith in
    omega (arith, below, product, positive)

module _ {F : Type 0} (r : Residues F) (laws : IsResidues r) (size : ℕ) (fits : 256 ^ size ≤ r.order) where
  abbrev pub element_of_chunk : List ℕ → F
  element_of_chunk chunk = r.of (little_endian chunk)

  chunk-fits : (chunk : List ℕ) → AreBytes chunk → length chunk ≤ size → little_endian chunk < r.order
  chunk-fits chunk are short =
      let below = little_endian-below chunk are in
      let grown : 256 ^ length chunk ≤ 256 ^ size = power_grows (length chunk) size short in
      omega (arith, below, grown, fits)

  same_chunk : (a b : List ℕ) → AreBytes a → AreBytes b → length a ≡ length b → length a ≤ size →
      element_of_chunk a ≡ element_of_chunk b → a ≡ b
  same_chunk a b a_are b_are same short e =
      let b_short : length b ≤ size = omega (arith, same, short) in
      little_endian-injective a b a_are b_are same
      (of-injective r laws (little_endian a) (little_endian b) (chunk-fits a a_are short) (chunk-fits b b_are b_short)
      e)

  -- equally many chunks of equally many bytes are a prefix code
  pub chunks-prefix_code : (n : ℕ) (a b : List ℕ) (x y : List F) → AreBytes a → AreBytes b → length a ≡ length b →
      length a ≤ n * size → map element_of_chunk (first_chunks size n a) ++ x
      ≡ map element_of_chunk (first_chunks size n b) ++ y → (a ≡ b) × (x ≡ y)
  unfolding first_chunks
  chunks-prefix_code zero a b x y a_are b_are same all e =
      let a_none : a ≡ [] = nil_from_length a (omega (arith, all)) in
      let b_none : b ≡ [] = nil_from_length b (omega (arith, all, same)) in
      (a_none ∙ sym b_none, e)
  chunks-prefix_code (suc n) a b x y a_are b_are same all e =
      let front : ◌≡◌ {A = F × List F} (
        element_of_chunk (take size a),
        map element_of_chunk (first_chunks size n (drop size a)) ++ x,
      ) (
        element_of_chunk (take size b),
        map element_of_chunk (first_chunks size n (drop size b)) ++ y,
      ) = cc in
      let short : length (take size a) ≤ size = omega (arith, length-take size a) in
      let as_long : length (take size a) ≡ length (take size b) = length-take size a ∙ ap (min size) same
      ∙ sym (length-take size b) in
      let first = same_chunk (take size a) (take size b) (AreBytes-take size a a_are) (AreBytes-take size b b_are)
      as_long short (ap (λ p. p.0) front) in
      let others_same : length (drop size a) ≡ length (drop size b) = length-drop size a ∙ ap (λ k. k - size) same
      ∙ sym (length-drop size b) in
      let product : suc n * size ≡ n * size + size = omega arith in
      let others_all : length (drop size a) ≤ n * size = omega (arith, length-drop size a, all, product) in
      let others = chunks-prefix_code n (drop size a) (drop size b) x y (AreBytes-drop size a a_are)
      (AreBytes-drop size b b_are) others_same others_all (ap (λ p. p.1) front) in (
        sym (take-append-drop size a) ∙ ap (λ c. c ++ drop size a) first ∙ ap (λ c. take size b ++ c) others.0
            ∙ take-append-drop size b,
        others.1,
      )

  -- packed byte strings are a prefix code
  pub packed-prefix_code : 0 < size → IsPrefixCodeOn (IsPackable r) (packed r size)
  packed-prefix_code positive a b x y a_is b_is e =
      let front : ◌≡◌ {A = F × List F} (r.of (length a), map element_of_chunk (chunks size a) ++ x) (
        r.of (length b),
        map element_of_chunk (chunks size b) ++ y,
      ) = cc in
      let same : length a ≡ length b = of-injective r laws (length a) (length b) a_is.1 b_is.1 (ap (λ p. p.0) front) in
      let as_many : map element_of_chunk (first_chunks size (chunk_count size (length a)) a) ++ x
      ≡ map element_of_chunk (first_chunks size (chunk_count size (length a)) b) ++ y =
      ap (λ p. p.1) front ∙ ap (λ k. map element_of_chunk (first_chunks size (chunk_count size k) b) ++ y) (sym same) in
      chunks-prefix_code (chunk_count size (length a)) a b x y a_is.0 b_is.0 same
      (chunks-enough size (length a) positive)
      as_many

-- ---- a field's own chunks

is_below : (n m : ℕ) → (m ≤ n → ⊥) → n < m
is_below n m short = elim (cases_lt n m) [
  | inl less ↦ less
  | inr more ↦ absurd (short more)
]

module _ {F : Type 0} (r : Residues F) (laws : IsResidues r) (bits : ℕ) (below : r.order < 2 ^ bits)
    (least : 2 ^ bits ≤ 2 * r.order) (large : 256 < r.order) where
  pub field_packed-prefix_code : IsPrefixCodeOn (IsPackable r) (packed r (chunk_bytes bits))
  field_packed-prefix_code =
      let positive = chunk_bytes-positive bits r.order large below in
      packed-prefix_code r laws (chunk_bytes bits)
      (chunk-below bits r.order (chunk_bytes bits) least (omega (arith, positive)) (omega arith)) positive

-- byte strings whose elements begin one list are equal
pub packed-begins : {F : Type 0} (r : Residues F) (laws : IsResidues r) (bits : ℕ) (below : r.order < 2 ^ bits)
    (least : 2 ^ bits ≤ 2 * r.order) → 256 < r.order → (a b : List ℕ) (x y : List F) → AreBytes a → AreBytes b →
    (r.order ≤ length a → ⊥) → (r.order ≤ length b → ⊥) →
    packed r (chunk_bytes bits) a ++ x ≡ packed r (chunk_bytes bits) b ++ y → OneBegins a b
packed-begins r laws bits below least large a b x y a_are b_are a_short b_short e =
    begins_itself a b
    ((field_packed-prefix_code r laws bits below least large a b x y (a_are, is_below (length a) r.order a_short) (
      b_are,
      is_below (length b) r.order b_short,
    ) e).0)

-- a byte string of at most 255 bytes can be packed in a field of more than 256 elements
pub short-packable : (order : ℕ) → 256 < order → (len : ℕ) → len ≤ 255 → order ≤ len → ⊥
short-packable order many len short long = absurd (omega (arith, many, short, long))
