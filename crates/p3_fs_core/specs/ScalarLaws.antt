-- Laws of an element's encoding.
use Rattle.std.proofs.Common.{◌≡◌, ℕ, zero, suc, ◌<◌, ◌≤◌, ◌*◌, ◌^◌, List, ◌++◌, length, take, drop, Bool, true}
use Rattle.std.proofs.Common.{false, nat_lt, if◌then◌else◌, Result, Ok, Err, refl, sym, ap, ◌∙◌, inl, inr, pow_mono}
use Rattle.std.proofs.{Common.arith, lemmas.Bool.Decides.nat_tests, lemmas.Bool.cases_lt}
use Rattle.std.proofs.lemmas.List.{take-append-drop, length-take-le, length-append}
use Rattle.p3_field_core.specs.{Residues.{Residues, IsResidues}, ResidueLaws.number_of-below}
use Rattle.p3_challenger_core.specs.Reading.{IsPrefixCode, AreBytes}
use Rattle.p3_fs_core.specs.{BigEndian.{big_endian, in_bytes, bytes_for}, Encoding.IsEncoding}
use Rattle.p3_fs_core.specs.BigEndianLaws.{big_endian-in_bytes, in_bytes-big_endian, length-in_bytes, AreBytes-take}
use Rattle.p3_fs_core.specs.BigEndianLaws.{take-front, drop-front, fits-bytes_for}
use Rattle.p3_fs_core.specs.Scalar.{wire, read, element_of, encoding, not_enough_bytes, outside_range}

-- a choice between two results: which one is chosen, and the value of the test
pub chosen : {A E : Type 0} (b : Bool) (e : E) (r : Result A E) (x : A) → (if b then Err e else r) ≡ Ok x →
    (b ≡ false) × (r ≡ Ok x)
chosen true e r x h = cc
chosen false e r x h = (refl, h)

accepted : {A E : Type 0} (b : Bool) (e : E) (y x : A) → (if b then Ok y else Err e) ≡ Ok x → (b ≡ true) × (y ≡ x)
accepted true e y x h = (refl, cc)
accepted false e y x h = cc

pub not_below : (n m : ℕ) → m ≤ n → nat_lt n m ≡ false
not_below n m h = grind (arith, nat_tests)

below : (n m : ℕ) → n < m → nat_lt n m ≡ true
below n m h = grind (arith, nat_tests)

pub at_least : (n m : ℕ) → nat_lt n m ≡ false → m ≤ n
at_least n m h = grind (arith, nat_tests)

is_below : (n m : ℕ) → nat_lt n m ≡ true → n < m
is_below n m h = grind (arith, nat_tests)

-- values that are read back form a prefix code, however they are encoded
pub read-prefix_code : {T : Type 0} (encoding : T → List ℕ) (reading : List ℕ → Result (T × List ℕ) (List ℕ)) →
    ((x : T) (rest : List ℕ) → reading (encoding x ++ rest) ≡ Ok (x, rest)) → IsPrefixCode encoding
read-prefix_code {T} encoding reading reads x y a b h =
    let both : ◌≡◌ {A = Result (T × List ℕ) (List ℕ)} (Ok (x, a)) (Ok (y, b)) = sym (reads x a) ∙ ap reading h
    ∙ reads y b in
    let same : ◌≡◌ {A = T × List ℕ} (x, a) (y, b) = cc in
    (ap (λ p. p.0) same, ap (λ p. p.1) same)

module _ {F : Type 0} (r : Residues F) (laws : IsResidues r) (width : ℕ) (fits : r.order ≤ 256 ^ width) where
  -- the number of an element's encoding is the element's number
  number-wire : (x : F) → big_endian (wire r width x) ≡ r.number x
  number-wire x = big_endian-in_bytes width (r.number x) (omega (arith, fits, laws.below x))

  pub length-wire : (x : F) → length (wire r width x) ≡ width
  length-wire x = length-in_bytes width (r.number x)

  -- the element of an element's number is that element
  element_of-number : (x : F) (rest : List ℕ) → element_of r (r.number x) rest ≡ Ok (x, rest)
  element_of-number x rest =
      ap (λ b. if b then Ok (r.of (r.number x), rest) else Err outside_range)
      (below (r.number x) r.order (laws.below x))
      ∙ ap (λ y. Ok (y, rest)) (laws.of_number x)

  -- an encoded element is read back, whatever follows
  pub read-wire : (x : F) (rest : List ℕ) → read r width (wire r width x ++ rest) ≡ Ok (x, rest)
  read-wire x rest =
      let encoded = wire r width x in
      let long : width ≤ length (encoded ++ rest) = omega (arith, length-append encoded rest, length-wire x) in
      ap (λ b. if b then Err not_enough_bytes else element_of r (big_endian (take width (encoded ++ rest)))
      (drop width (encoded ++ rest))) (not_below (length (encoded ++ rest)) width long)
      ∙ ap (λ bytes. element_of r (big_endian bytes) (drop width (encoded ++ rest)))
      (take-front width encoded rest (length-wire x))
      ∙ ap (λ following. element_of r (big_endian encoded) following) (drop-front width encoded rest (length-wire x))
      ∙ ap (λ n. element_of r n rest) (number-wire x)
      ∙ element_of-number x rest

  -- an element that is read has these bytes as its encoding
  pub read-only : (bytes : List ℕ) (x : F) (rest : List ℕ) → AreBytes bytes → read r width bytes ≡ Ok (x, rest) →
      bytes ≡ wire r width x ++ rest
  read-only bytes x rest are_bytes h =
      let front = take width bytes in
      let n = big_endian front in
      let long = chosen (nat_lt (length bytes) width) not_enough_bytes (element_of r n (drop width bytes)) (x, rest) h
      in
      let found = accepted (nat_lt n r.order) outside_range (r.of n, drop width bytes) (x, rest) long.1 in
      let value : r.of n ≡ x = ap (λ p. p.0) found.1 in
      let following : drop width bytes ≡ rest = ap (λ p. p.1) found.1 in
      let same : r.number x ≡ n = sym (ap r.number value) ∙ number_of-below r laws n (is_below n r.order found.0) in
      let encoded : wire r width x ≡ front =
      ap (in_bytes width) same
      ∙ in_bytes-big_endian width front (length-take-le width bytes (at_least (length bytes) width long.0))
      (AreBytes-take width bytes are_bytes) in
      sym (ap (λ a. a ++ rest) encoded ∙ ap (λ b. front ++ b) (sym following) ∙ take-append-drop width bytes)

  -- encodings of elements are a prefix code
  pub wire-prefix_code : IsPrefixCode (wire r width)
  wire-prefix_code = read-prefix_code (wire r width) (read r width) read-wire

-- ---- the width of a field

-- an order is at most 256 to the number of bytes that its bits take
pub order-fits : (bits order : ℕ) → order < 2 ^ bits → order ≤ 256 ^ bytes_for bits
order-fits bits order fits = omega (arith, fits-bytes_for bits order fits)

-- an element takes at most eight bytes
pub width-most : (bits order : ℕ) → 2 ^ bits ≤ 2 * order → order < 2 ^ 64 → bytes_for bits ≤ 8
width-most bits order least fits = elim (cases_lt 64 bits) [
  | inl more ↦
      let grown : 2 ^ 65 ≤ 2 ^ bits = pow_mono more in
      absurd (omega (arith, grown, least, fits))
  | inr enough ↦ omega arith
]

pub width-short : (bits order : ℕ) → 2 ^ bits ≤ 2 * order → order < 2 ^ 64 → bytes_for bits ≤ 65535
width-short bits order least fits = omega (arith, width-most bits order least fits)

-- elements of a field have an encoding
pub is_encoding : {F : Type 0} (r : Residues F) → IsResidues r → (bits : ℕ) → r.order < 2 ^ bits →
    IsEncoding (encoding r bits)
is_encoding r laws bits below =
    let width = bytes_for bits in
    let fits = order-fits bits r.order below in
    record {
      fixed_width = length-wire r laws width fits;
      prefix_code = wire-prefix_code r laws width fits;
      reads_back = read-wire r laws width fits;
      only_reads = read-only r laws width fits;
    }

-- an element takes at least one byte, since the order is above 1
pub width-positive : {F : Type 0} (r : Residues F) → IsResidues r → (bits : ℕ) → r.order < 2 ^ bits → 0 < bytes_for bits
width-positive r laws zero below = absurd (omega (arith, laws.above_one, below))
width-positive r laws (suc bits) below = omega arith

-- with enough bytes, the only reason to read no element is a number that is not below the order
one_reason-of : {A : Type 0} (canonical : Bool) (found : A) (reason : List ℕ) →
    (if canonical then Ok found else Err outside_range) ≡ Err reason → reason ≡ outside_range
one_reason-of true found reason e = cc
one_reason-of false found reason e = cc

pub one_reason : {F : Type 0} (r : Residues F) (width : ℕ) (bytes reason : List ℕ) → width ≤ length bytes →
    read r width bytes ≡ Err reason → reason ≡ outside_range
one_reason r width bytes reason enough e =
    let n = big_endian (take width bytes) in
    let here = ap (λ b. if b then Err not_enough_bytes else element_of r n (drop width bytes))
    (not_below (length bytes) width enough) in
    one_reason-of (nat_lt n r.order) (r.of n, drop width bytes) reason (sym here ∙ e)
