-- Messages of one length that stand one after another.
use Rattle.std.proofs.Common.{◌≡◌, ℕ, suc, ◌+◌, ◌-◌, ◌*◌, ◌<◌, ◌≤◌, List, ◌++◌, length, take, drop, slice_range}
use Rattle.std.proofs.Common.{[], ◌∷◌, add-one, append_assoc, sym, ap, subst, ◌∙◌, inl, inr, arith}
use Rattle.std.proofs.lemmas.Slice.{between_is, take-put_mid_below, take-put_mid, drop-put_mid}
use Rattle.std.proofs.Math.Seq.{drop-append_seam, take-append_seam}
use Rattle.p3_hash_challenger.specs.WitnessSearch.{BeginWith, IsMessageOf}
use Rattle.std.proofs.lemmas.{Bool.cases_lt, List.{drop-append-le, take-append-le, take-append-drop}}
use Rattle.std.proofs.{lemmas.List.{length-append, length-drop, length-take-le}, Math.Nat.{mul-le-mul_right, suc-mul}}

-- a message ends where a later one begins, or before
pub ends_before : (j l each : ℕ) → j < l → j * each + each ≤ l * each
ends_before j l each h =
    let next : suc j ≤ l = omega (arith, h) in
    let rows : suc j * each ≤ l * each = mul-le-mul_right each next in
    omega (arith, rows, suc-mul j each)

module _ {T : Type 0} where
  -- what a list is once a part of it is written
  abbrev written : ℕ → ℕ → List T → List T → List T
  written a k xs ys = take a xs ++ (ys ++ drop k (drop a xs))

  range-before : (a k : ℕ) (xs ys : List T) (i j : ℕ) → j ≤ a → a ≤ length xs
      → slice_range (written a k xs ys) i j ≡ slice_range xs i j
  range-before a k xs ys i j h inside =
      between_is (written a k xs ys) i j
      ∙ ap (drop i) (take-put_mid_below a k xs ys j h inside) ∙ sym (between_is xs i j)

  range-after : (a k : ℕ) (xs ys : List T) (i j : ℕ) → a + k ≤ i → a ≤ length xs → length ys ≡ k
      → slice_range (written a k xs ys) i j ≡ slice_range xs i j
  range-after a k xs ys i j h inside long = ap (take (j - i)) (drop-put_mid a k xs ys i h inside long)

  range-at : (a k : ℕ) (xs ys : List T) (i j : ℕ) → i ≤ a → a ≤ length xs → j ≡ a + length ys
      → slice_range (written a k xs ys) i j ≡ slice_range xs i a ++ ys
  range-at a k xs ys i j h inside is =
      between_is (written a k xs ys) i j
      ∙ ap (drop i) (take-put_mid a k xs ys j is inside)
      ∙ drop-append-le i (take a xs) ys (omega (arith, h, length-take-le a xs inside))
      ∙ ap (λ v. v ++ ys) (sym (between_is xs i a))

  range-front : (xs ys : List T) (i j : ℕ) → j ≤ length xs → slice_range (xs ++ ys) i j ≡ slice_range xs i j
  range-front xs ys i j h = between_is (xs ++ ys) i j ∙ ap (drop i) (take-append-le j xs ys h) ∙ sym (between_is xs i j)

  -- a range of a front is one of the whole
  pub range-of_front : (xs : List T) (end i j : ℕ) → j ≤ end → end ≤ length xs
      → slice_range (take end xs) i j ≡ slice_range xs i j
  range-of_front xs end i j h inside =
      sym (range-front (take end xs) (drop end xs) i j (omega (arith, h, length-take-le end xs inside)))
      ∙ ap (λ v. slice_range v i j) (take-append-drop end xs)

-- of no messages each begins with the prefix
pub begin_none : (prefix : List ℕ) (bytes : ℕ) (messages : List ℕ) → length messages ≡ 0
    → BeginWith prefix (length prefix + bytes) messages
begin_none [] bytes messages none j fits =
    let start = j * (0 + bytes) in
    let no_places : start + 0 - start ≡ 0 = omega arith in
    ap (λ n. take n (drop start messages)) no_places
begin_none (x ∷ xs) bytes messages none j fits = absurd (omega (arith, fits, none))

-- one message more, of the prefix and as many bytes as there are fillers
module _ (prefix fillers messages : List ℕ) (count bytes : ℕ) (size : length fillers ≡ bytes)
    (room : length messages ≡ count * (length prefix + bytes))
    (so_far : BeginWith prefix (length prefix + bytes) messages) where
  abbrev more : List ℕ
  more = (messages ++ prefix) ++ fillers

  more-length : length more ≡ length messages + (length prefix + bytes)
  more-length = omega (arith, size, length-append (messages ++ prefix) fillers, length-append messages prefix)

  pub more-room : length more ≡ (count + 1) * (length prefix + bytes)
  more-room =
      let each = length prefix + bytes in
      more-length
      ∙ ap (λ n. n + each) room ∙ sym (suc-mul count each) ∙ ap (λ n. n * each) (sym (add-one count))

  pub more-begin : BeginWith prefix (length prefix + bytes) more
  more-begin j fits =
      let each = length prefix + bytes in
      elim (cases_lt j count) [
        | inl earlier ↦
            let ends : j * each + each ≤ length messages = omega (arith, ends_before j count each earlier, room) in
            ap (λ v. slice_range v (j * each) (j * each + length prefix)) (append_assoc messages prefix fillers)
            ∙ range-front messages (prefix ++ fillers) (j * each) (j * each + length prefix) (omega (arith, ends))
            ∙ so_far j ends
        | inr last ↦
            let rows : count * each ≤ j * each = mul-le-mul_right each last in
            let begins : j * each ≡ length messages = omega (arith, rows, room, fits, more-length) in
            let end : j * each + length prefix ≡ length (messages ++ prefix) =
            omega (arith, begins, length-append messages prefix) in
            between_is more (j * each) (j * each + length prefix)
            ∙ (λ i. drop (begins i) (take (end i) more))
            ∙ ap (drop (length messages)) (take-append_seam (messages ++ prefix) fillers)
            ∙ drop-append_seam messages prefix
      ]

-- the bytes of a candidate are written at the end of its message
module _ (prefix : List ℕ) (encoded : ℕ → List ℕ) (bytes first : ℕ) (messages ys : List ℕ) (l : ℕ)
    (room : l * (length prefix + bytes) + (length prefix + bytes) ≤ length messages)
    (is : ys ≡ encoded (first + l)) (whole : length ys ≡ bytes)
    (so_far : BeginWith prefix (length prefix + bytes) messages) where
  abbrev each : ℕ
  each = length prefix + bytes

  abbrev at : ℕ
  at = l * each + each - bytes

  abbrev long : ℕ
  long = l * each + each - at

  abbrev new : List ℕ
  new = written at long messages ys

  at_is : at ≡ l * each + length prefix
  at_is = omega arith

  long_is : long ≡ bytes
  long_is = omega arith

  inside : at ≤ length messages
  inside = omega (arith, room)

  pub written-length : length new ≡ length messages
  written-length =
      omega (
        arith,
        room,
        whole,
        at_is,
        long_is,
        length-append (take at messages) (ys ++ drop long (drop at messages)),
        length-append ys (drop long (drop at messages)),
        length-take-le at messages inside,
        length-drop long (drop at messages),
        length-drop at messages,
      )

  pub written-begin : BeginWith prefix (length prefix + bytes) new
  written-begin j fits = elim (cases_lt l j) [
    | inl later ↦
        let rows = ends_before l j each later in
        range-after at long messages ys (j * each) (j * each + length prefix) (omega (arith, rows)) inside
        (whole ∙ sym long_is)
        ∙ so_far j (omega (arith, fits, written-length))
    | inr not_later ↦
        let rows : j * each ≤ l * each = mul-le-mul_right each not_later in
        range-before at long messages ys (j * each) (j * each + length prefix) (omega (arith, rows, at_is)) inside
        ∙ so_far j (omega (arith, fits, written-length))
  ]

  written-here : IsMessageOf prefix encoded bytes first new l
  written-here =
      record {
        is =
            range-at at long messages ys (l * each) (l * each + each) (omega (arith, at_is)) inside
            (omega (arith, at_is, whole))
            ∙ (λ i. slice_range messages (l * each) (at_is i) ++ is i)
            ∙ ap (λ v. v ++ encoded (first + l)) (so_far l room);
        whole = sym (ap length is) ∙ whole;
      }

  pub written-messages : ((m : ℕ) → m < l → IsMessageOf prefix encoded bytes first messages m) → (m : ℕ) → m < l + 1
      → IsMessageOf prefix encoded bytes first new m
  written-messages earlier m below = elim (cases_lt m l) [
    | inl before ↦
        let rows = ends_before m l each before in
        let was = earlier m before in
        record {
          is =
              range-before at long messages ys (m * each) (m * each + each) (omega (arith, rows, at_is)) inside
              ∙ was.is;
          whole = was.whole;
        }
    | inr here ↦
        let same : l ≡ m = omega (arith, here, below) in
        subst (λ k. IsMessageOf prefix encoded bytes first new k) same written-here
  ]
