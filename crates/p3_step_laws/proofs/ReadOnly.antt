-- What is read is encoded so: the bytes are the encoding, and then those that are left.
use Rattle.std.proofs.Common.{◌≡◌, ℕ, zero, suc, ◌≤◌, List, ◌∷◌, ◌++◌, length, take, drop, Result, Ok, Err, refl, ap}
use Rattle.std.{proofs.{Common.{arith, append_assoc, append-nil}, lemmas.Grind.common_steps}, specs.List.flat_map}
use Rattle.std.proofs.lemmas.List.{take-append-drop, length-take-le, length-append, nil_from_length}
use Rattle.p3_challenger_core.specs.Reading.{AreBytes}
use Rattle.p3_fs_core.specs.{Encoding.{Encoding, IsEncoding}, ScalarLaws.{chosen, at_least}}
use Rattle.p3_fs_core.specs.BigEndianLaws.{in_bytes-big_endian, AreBytes-take, AreBytes-drop, drop-front}
use Rattle.p3_fs_core.specs.BigEndian.{count_width, count_bytes}
use Rattle.p3_driver_core.specs.{Transcripts.Meaning, Reads.{read_counted_values, message_too_long, Read, Reading}}
use Rattle.p3_driver_core.specs.Reads.{read_bytes, read_value, value_in, read_count, then_read, read_counted_bytes}
use Rattle.p3_driver_core.specs.Reads.{absorbed_first, in_front, read_each, read_values}
use Rattle.p3_step_laws.specs.ReadBack.{OnlyReads}

-- after a front of bytes, what is left is bytes too
pub are_left : (bytes front rest : List ℕ) → AreBytes bytes → bytes ≡ front ++ rest → AreBytes rest
are_left bytes front rest are is =
    let left = AreBytes-drop (length front) bytes are in rw (is, drop-front (length front) front rest refl) at left

-- where the value fits, and the bytes are its encoding and what is left
pub only_reads : {S Symbol A : Type 0} {r : Reading S Symbol A} {Fits : A → Type 0} {sent : A → Meaning S Symbol A} →
    ((bytes : List ℕ) (x : A) (rest : List ℕ) → AreBytes bytes → r.read bytes ≡ Ok (x, rest) →
    Fits x × (bytes ≡ (sent x).wire ++ rest)) → OnlyReads r Fits sent
only_reads {sent = sent} both =
    record {
      fits = λ bytes x rest are h. (both bytes x rest are h).0;
      encoded = λ bytes x rest are h. (both bytes x rest are h).1;
      bytes_left = λ bytes x rest are h. are_left bytes (sent x).wire rest are (both bytes x rest are h).1;
    }

-- ---- where something is read, each part of it is

parts : {A B E : Type 0} {p q : A × B} → ◌≡◌ {A = Result (A × B) E} (Ok p) (Ok q) → (p.0 ≡ q.0) × (p.1 ≡ q.1)
parts {A} {B} {E} {p} {q} h =
    let same : p ≡ q = cc in (ap (λ r. r.0) same, ap (λ r. r.1) same)

then_read-ok : {S A B : Type 0} (next : A → List ℕ → Read S B) (r : Read S A) (y : B × List ℕ) →
    then_read next r ≡ Ok y → (a : A × List ℕ) × (r ≡ Ok a) × (next a.0 a.1 ≡ Ok y)
then_read-ok next (Ok found) y h = (found, refl, h)
then_read-ok next (Err failure) y h = cc

absorbed_first-ok : {S A : Type 0} (f : S → S) (r : Read S A) (y : A × List ℕ) → absorbed_first f r ≡ Ok y → r ≡ Ok y
absorbed_first-ok f (Ok found) y h = h
absorbed_first-ok f (Err failure) y h = cc

in_front-ok : {S A : Type 0} (x : A) (r : Read S (List A)) (ys : List A) (rest : List ℕ) →
    in_front x r ≡ Ok (ys, rest) → (zs : List A) × (r ≡ Ok (zs, rest)) × (x ∷ zs ≡ ys)
in_front-ok x (Ok found) ys rest h = (found.0, ap (λ l. Ok (found.0, l)) (parts h).1, (parts h).0)
in_front-ok x (Err failure) ys rest h = cc

value_in-ok : {S A : Type 0} (r : Result (A × List ℕ) (List ℕ)) (after : List ℕ) (x : A) (rest : List ℕ) →
    value_in {S = S} r after ≡ Ok (x, rest) → (y : List ℕ) × (r ≡ Ok (x, y)) × (after ≡ rest)
value_in-ok (Ok found) after x rest h = (found.1, ap (λ z. Ok (z, found.1)) (parts h).0, (parts h).1)
value_in-ok (Err reason) after x rest h = cc

-- ---- bytes, and values

pub bytes-only : {S : Type 0} (n : ℕ) (bytes x rest : List ℕ) → read_bytes {S = S} n bytes ≡ Ok (x, rest) →
    (length x ≡ n) × (bytes ≡ x ++ rest)
bytes-only n bytes x rest h = grind (arith, common_steps)

module _ {S A : Type 0} (e : Encoding A) (encodes : IsEncoding e) where
  pub value-only : (bytes : List ℕ) (x : A) (rest : List ℕ) → AreBytes bytes → read_value {S = S} e bytes ≡ Ok (x, rest)
      → bytes ≡ e.wire x ++ rest
  value-only bytes x rest are h =
      let w = e.width in
      let front = take w bytes in
      let c = chosen _ _ (value_in {S = S} (e.read front) (drop w bytes)) (x, rest) h in
      let v = value_in-ok (e.read front) (drop w bytes) x rest c.1 in
      let encoded = encodes.only_reads front x v.0 (AreBytes-take w bytes are) v.1 in
      let long = length-take-le w bytes (at_least (length bytes) w c.0) in
      let width = encodes.fixed_width x in
      let whole = length-append (e.wire x) v.0 in
      let none = nil_from_length v.0 (omega (arith, long, width, whole, ap length encoded)) in
      let left = v.2 in
      cc (append-nil (e.wire x), take-append-drop w bytes)

  each-only : (observed : S → A → S) (n : ℕ) (bytes : List ℕ) (xs : List A) (rest : List ℕ) → AreBytes bytes →
      read_each e observed n bytes ≡ Ok (xs, rest) → (length xs ≡ n) × (bytes ≡ flat_map e.wire xs ++ rest)
  unfolding read_each
  each-only observed zero bytes xs rest are h =
      let left = (parts h).1 in rw (← (parts h).0) (refl, left)
  each-only observed (suc n) bytes xs rest are h =
      let first = then_read-ok _ (read_value {S = S} e bytes) (xs, rest) h in
      let x = first.0.0 in
      let after = first.0.1 in
      let others = in_front-ok x _ xs rest (absorbed_first-ok (λ s. observed s x) _ (xs, rest) first.2) in
      let value = value-only bytes x after are first.1 in
      let row = each-only observed n after others.0 rest (are_left bytes (e.wire x) after are value) others.1 in
      rw (← others.2) (ap suc row.0, cc (value, row.1, append_assoc (e.wire x) (flat_map e.wire others.0) rest))

  pub values-only : (observed : S → A → S) (n : ℕ) (bytes : List ℕ) (xs : List A) (rest : List ℕ) → AreBytes bytes →
      read_values e observed n bytes ≡ Ok (xs, rest) → (length xs ≡ n) × (bytes ≡ flat_map e.wire xs ++ rest)
  values-only observed n bytes xs rest are h =
      each-only observed n bytes xs rest are (chosen _ _ (read_each e observed n bytes) (xs, rest) h).1

-- ---- after a count

count-only : {S : Type 0} (over : List ℕ) (max : ℕ) (bytes : List ℕ) (n : ℕ) (rest : List ℕ) → AreBytes bytes →
    read_count {S = S} over max bytes ≡ Ok (n, rest) → (n ≤ max) × (bytes ≡ count_bytes max n ++ rest)
count-only over max bytes n rest are h =
    let w = count_width max in
    let c = chosen _ _ _ (n, rest) h in
    let d = chosen _ _ _ (n, rest) c.1 in
    let number = (parts d.1).0 in
    let left = (parts d.1).1 in
    let encoded = in_bytes-big_endian w (take w bytes) (length-take-le w bytes (at_least (length bytes) w c.0))
    (AreBytes-take w bytes are) in
    rw (← number) (at_least max _ d.0, cc (encoded, left, take-append-drop w bytes))

pub counted_bytes-only : {S : Type 0} (over : List ℕ) (max : ℕ) (bytes x rest : List ℕ) → AreBytes bytes →
    read_counted_bytes {S = S} over max bytes ≡ Ok (x, rest) →
    (length x ≤ max) × (bytes ≡ (count_bytes max (length x) ++ x) ++ rest)
counted_bytes-only {S} over max bytes x rest are h =
    let first = then_read-ok (read_bytes {S = S}) (read_count {S = S} over max bytes) (x, rest) h in
    let count = count-only over max bytes first.0.0 first.0.1 are first.1 in
    let found = bytes-only first.0.0 first.0.1 x rest first.2 in
    rw found.0 (count.0, cc (count.1, found.1, append_assoc (count_bytes max first.0.0) x rest))

pub counted_values-only : {S A : Type 0} (e : Encoding A) → IsEncoding e → (observed : S → A → S)
    (counted : ℕ → S → S) (max : ℕ) (bytes : List ℕ) (xs : List A) (rest : List ℕ) → AreBytes bytes →
    read_counted_values e observed counted max bytes ≡ Ok (xs, rest) →
    (length xs ≤ max) × (bytes ≡ (count_bytes max (length xs) ++ flat_map e.wire xs) ++ rest)
counted_values-only {S} e encodes observed counted max bytes xs rest are h =
    let first = then_read-ok _ (read_count {S = S} message_too_long max bytes) (xs, rest) h in
    let n = first.0.0 in
    let after = first.0.1 in
    let count = count-only message_too_long max bytes n after are first.1 in
    let found = values-only e encodes observed n after xs rest (are_left bytes (count_bytes max n) after are count.1)
    (absorbed_first-ok (counted n) _ (xs, rest) first.2) in
    rw found.0 (count.0, cc (count.1, found.1, append_assoc (count_bytes max n) (flat_map e.wire xs) rest))
