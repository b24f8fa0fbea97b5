-- What is written is read back, whatever follows.
use Rattle.std.proofs.Common.{◌≡◌, ℕ, ◌*◌, ◌^◌, ◌<◌, ◌≤◌, List, [], ◌∷◌, ◌++◌, length, Ok, refl, arith, append_assoc}
use Rattle.std.{proofs.{Common.{append-nil, length-append}, lemmas.Grind.common_steps}, specs.List.flat_map}
use Rattle.p3_fs_core.specs.BigEndianLaws.{big_endian-in_bytes, length-in_bytes, take-front, drop-front}
use Rattle.p3_fs_core.specs.{Encoding.{Encoding, IsEncoding}, CountLaws.count_width-enough, ScalarLaws.not_below}
use Rattle.p3_fs_core.specs.BigEndian.{count_width, count_bytes}
use Rattle.p3_driver_core.specs.Reads.{read_bytes, read_value, read_count, read_counted_bytes, read_each, read_values}
use Rattle.p3_driver_core.specs.Reads.{read_counted_values, message_too_long}

-- ---- bytes, and a value

pub bytes-back : {S : Type 0} (bytes rest : List ℕ) →
    read_bytes {S = S} (length bytes) (bytes ++ rest) ≡ Ok (bytes, rest)
bytes-back bytes rest = grind (arith, common_steps)

length-values : {A : Type 0} (e : Encoding A) → IsEncoding e → (xs : List A) →
    length (flat_map e.wire xs) ≡ length xs * e.width
length-values e encodes [] = omega arith
length-values e encodes (x ∷ xs) =
    omega (arith, length-append (e.wire x) (flat_map e.wire xs), encodes.fixed_width x, length-values e encodes xs)

module _ {S A : Type 0} (e : Encoding A) (encodes : IsEncoding e) where
  pub value-back : (x : A) (rest : List ℕ) → read_value {S = S} e (e.wire x ++ rest) ≡ Ok (x, rest)
  value-back x rest =
      let width = encodes.fixed_width x in
      let enough : e.width ≤ length (e.wire x ++ rest) = omega (arith, length-append (e.wire x) rest, width) in
      let found : e.read (e.wire x) ≡ Ok (x, []) = rw append-nil at (encodes.reads_back x []) in
      rw (not_below _ _ enough, take-front _ _ rest width, found, drop-front _ _ rest width)

  -- ---- the values of a list

  each-back : (observed : S → A → S) (xs : List A) (rest : List ℕ) →
      read_each e observed (length xs) (flat_map e.wire xs ++ rest) ≡ Ok (xs, rest)
  unfolding read_each
  each-back observed [] rest = refl
  each-back observed (x ∷ xs) rest =
      rw (append_assoc, value-back x (flat_map e.wire xs ++ rest), each-back observed xs rest)

  pub values-back : (observed : S → A → S) (xs : List A) (rest : List ℕ) →
      read_values e observed (length xs) (flat_map e.wire xs ++ rest) ≡ Ok (xs, rest)
  values-back observed xs rest =
      let enough : length xs * e.width ≤ length (flat_map e.wire xs ++ rest)
      = omega (arith, length-append (flat_map e.wire xs) rest, length-values e encodes xs) in
      rw (not_below _ _ enough) (each-back observed xs rest)

-- ---- counts

count-back : {S : Type 0} (over : List ℕ) (max n : ℕ) → n ≤ max → max < 2 ^ 64 → (rest : List ℕ) →
    read_count {S = S} over max (count_bytes max n ++ rest) ≡ Ok (n, rest)
count-back over max n within fits rest =
    let width = count_width max in
    let long = length-in_bytes width n in
    let enough : width ≤ length (count_bytes max n ++ rest)
    = omega (arith, length-append (count_bytes max n) rest, long) in
    let number = big_endian-in_bytes width n (omega (arith, count_width-enough max fits, within)) in
    rw (not_below _ _ enough, take-front _ _ rest long, drop-front _ _ rest long, number, not_below _ _ within)

-- bytes after their count
pub counted_bytes-back : {S : Type 0} (over : List ℕ) (max : ℕ) (bytes rest : List ℕ) → length bytes ≤ max →
    max < 2 ^ 64 →
    read_counted_bytes {S = S} over max ((count_bytes max (length bytes) ++ bytes) ++ rest) ≡ Ok (bytes, rest)
counted_bytes-back over max bytes rest within fits =
    rw (append_assoc, count-back over max (length bytes) within fits (bytes ++ rest)) (bytes-back bytes rest)

-- the values of a list after their count
pub counted_values-back : {S A : Type 0} (e : Encoding A) → IsEncoding e → (observed : S → A → S)
    (counted : ℕ → S → S) (max : ℕ) (xs : List A) (rest : List ℕ) → length xs ≤ max → max < 2 ^ 64 →
    read_counted_values e observed counted max ((count_bytes max (length xs) ++ flat_map e.wire xs) ++ rest)
    ≡ Ok (xs, rest)
counted_values-back {S} e encodes observed counted max xs rest within fits =
    let count = count-back {S = S} message_too_long max (length xs) within fits (flat_map e.wire xs ++ rest) in
    rw (append_assoc, count, values-back e encodes observed xs rest)
