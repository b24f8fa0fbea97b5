-- The count of a bounded step.
use Rattle.std.proofs.Common.{◌≡◌, ℕ, ◌<◌, ◌≤◌, ◌+◌, ◌-◌, ◌*◌, ◌^◌, List, ◌++◌, length, take, replicate, sym}
use Rattle.std.{proofs.Common.{ap, ◌∙◌, subst, arith}, proofs.lemmas.Nat.leading_length, specs.Int.div_ceil}
use Rattle.std.proofs.lemmas.List.{length-take-le}
use Rattle.p3_challenger_core.specs.Reading.{AreBytes, IsPrefixCodeOn}
use Rattle.p3_fs_core.specs.{BigEndian.{big_endian, in_bytes, bytes_for}, BigEndianLaws.front-prefix_code}
use Rattle.p3_fs_core.specs.BigEndianLaws.{fits-bytes_for, bytes_for-least, big_endian-in_bytes, big_endian-below}
use Rattle.p3_fs_core.specs.BigEndianLaws.{in_bytes-big_endian, length-in_bytes, AreBytes-take, take-front}
use lib.Count.{count_leading_zeros}

rounded_up : (bits : ℕ) → div_ceil bits 8 ≡ bytes_for bits
rounded_up bits = omega arith

-- the bytes that the bits of a number take, as they are counted
module _ (max width : ℕ) (fits : max < 2 ^ 64) (is : width ≡ div_ceil (64 - count_leading_zeros 64 max) 8) where
  bit_length : (bits : ℕ) × (width ≡ bytes_for bits) × (max < 2 ^ bits) × (2 ^ bits ≤ 2 * max + 1)
  bit_length =
      let found = leading_length 64 max fits in
      let same : 64 - count_leading_zeros 64 max ≡ found.0 = omega (arith, found.1) in
      (found.0, is ∙ rounded_up (64 - count_leading_zeros 64 max) ∙ ap bytes_for same, found.2, found.3)

  pub width-enough : max < 256 ^ width
  width-enough = subst (λ (k : ℕ). max < 256 ^ k) (sym bit_length.1) (fits-bytes_for bit_length.0 max bit_length.2)

  pub width-least : (k : ℕ) → max < 256 ^ k → width ≤ k
  width-least k enough =
      subst (λ (w : ℕ). w ≤ k) (sym bit_length.1) (bytes_for-least bit_length.0 max k bit_length.3 enough)

-- a count that is encoded is read
pub counted_read_back : (width len : ℕ) (encoded : List ℕ) → len < 256 ^ width →
    encoded ≡ in_bytes width len ++ replicate (8 - width) 0 → big_endian (take width encoded) ≡ len
counted_read_back width len encoded fits is =
    let front : take width (in_bytes width len ++ replicate (8 - width) 0) ≡ in_bytes width len =
    take-front width (in_bytes width len) (replicate (8 - width) 0) (length-in_bytes width len) in
    ap (λ bytes. big_endian (take width bytes)) is ∙ ap big_endian front ∙ big_endian-in_bytes width len fits

-- a count that is read fits in its bytes
pub counted_fits : (width number : ℕ) (buf : List ℕ) → AreBytes buf → width ≤ length buf →
    number ≡ big_endian (take width buf) → number < 256 ^ width
counted_fits width number buf are_bytes long is =
    let below = big_endian-below (take width buf) (AreBytes-take width buf are_bytes) in
    let as_long : length (take width buf) ≡ width = length-take-le width buf long in
    subst (λ (n : ℕ). n < 256 ^ width) (sym is) (subst (λ (k : ℕ). big_endian (take width buf) < 256 ^ k) as_long below)

-- a count that is read is encoded so
pub counted_encoded_back : (width number : ℕ) (buf : List ℕ) → AreBytes buf → width ≤ length buf →
    number ≡ big_endian (take width buf) → in_bytes width number ≡ take width buf
counted_encoded_back width number buf are_bytes long is =
    ap (in_bytes width) is
    ∙ in_bytes-big_endian width (take width buf) (length-take-le width buf long) (AreBytes-take width buf are_bytes)

-- counts of one width are a prefix code
pub counts_prefix_code : (width : ℕ) → IsPrefixCodeOn (λ n. n < 256 ^ width) (in_bytes width)
counts_prefix_code width x y a b x_fits y_fits e =
    let parts = front-prefix_code (in_bytes width x) (in_bytes width y) a b
    (length-in_bytes width x ∙ sym (length-in_bytes width y)) e in
    (sym (big_endian-in_bytes width x x_fits) ∙ ap big_endian parts.0 ∙ big_endian-in_bytes width y y_fits, parts.1)
