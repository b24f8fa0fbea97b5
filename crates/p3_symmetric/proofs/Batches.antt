-- Messages of one length that stand one after another, hashed four at a time.
use Rattle.std.proofs.Common.{◌≡◌, ℕ, suc, ◌+◌, ◌-◌, ◌*◌, ◌/◌, ◌<◌, ◌≤◌, ◌++◌, List, Some, length, take, drop}
use Rattle.std.proofs.Common.{slice_get, slice_range, sym, ap, ◌∙◌, inl, inr, arith}
use Rattle.std.proofs.lemmas.{Bool.cases_lt, Slice.between_is, List.Edits.length-between}
use Rattle.std.proofs.lemmas.Option.{slice_get-get_or, get_or_from_slice_get}
use Rattle.std.proofs.lemmas.List.{take-take, drop-drop, length-append, length-take-le, length-drop}
use Rattle.std.proofs.lemmas.List.{get_or_append_left, get_or-append_right, get_or-take}
use Rattle.std.proofs.Math.Nat.{add-mul, suc-mul, mul-le-mul_right, mul-div-le}

-- a range of a range is one of the whole
range-of_range : {X : Type 0} (xs : List X) (a e i j : ℕ) → a + j ≤ e
    → slice_range (slice_range xs a e) i j ≡ slice_range xs (a + i) (a + j)
range-of_range xs a e i j inside =
    let size : (a + j) - (a + i) ≡ j - i = omega arith in
    between_is (take (e - a) (drop a xs)) i j
    ∙ ap (drop i) (take-take j (e - a) (drop a xs) (omega (arith, inside)))
    ∙ sym (between_is (drop a xs) i j)
    ∙ ap (take (j - i)) (drop-drop i a xs)
    ∙ ap (λ n. take n (drop (a + i) xs)) (sym size)

-- the messages of a whole group are there
pub group-inside : (size count group : ℕ) → group < count / 4
    → 4 * group * (size / count) + 4 * (size / count) ≤ size
group-inside size count group below =
    let each = size / count in
    let last : 4 * group + 4 ≤ count = omega (arith, below) in
    let rows : (4 * group + 4) * each ≤ count * each = mul-le-mul_right each last in
    omega (arith, rows, add-mul (4 * group) 4 each, mul-div-le size count)

-- a message of a group is one of the batch
pub message-of_group : (messages : List ℕ) (start each l : ℕ) → l < 4
    → start * each + 4 * each ≤ length messages
    → let group = slice_range messages (start * each) (start * each + 4 * each) in
    let fourth = length group / 4 in
    slice_range group (l * fourth) (l * fourth + fourth)
    ≡ slice_range messages ((start + l) * each) ((start + l) * each + each)
message-of_group messages start each l low inside =
    let group = slice_range messages (start * each) (start * each + 4 * each) in
    let fourth : length group / 4 ≡ each =
    omega (arith, length-between messages (start * each) (start * each + 4 * each) inside) in
    let next : suc l ≤ 4 = omega (arith, low) in
    let rows : suc l * each ≤ 4 * each = mul-le-mul_right each next in
    let begin : start * each + l * each ≡ (start + l) * each = sym (add-mul start l each) in
    let end : start * each + (l * each + each) ≡ (start + l) * each + each = omega (arith, begin) in
    (λ i. slice_range group (l * fourth i) (l * fourth i + fourth i))
    ∙ range-of_range messages (start * each) (start * each + 4 * each) (l * each) (l * each + each)
    (omega (arith, rows, suc-mul l each))
    ∙ (λ i. slice_range messages (begin i) (end i))

-- what a list is once a part of it is written
abbrev written : {X : Type 0} → List X → List X → ℕ → ℕ → List X
written xs ys start size = take start xs ++ (ys ++ drop size (drop start xs))

module _ {X : Type 0} (xs ys : List X) (start size : ℕ) (is : X) (long : length ys ≡ size)
    (inside : start + size ≤ length xs) where
  abbrev new : List X
  new = written xs ys start size

  new-length : length new ≡ length xs
  new-length =
      omega (
        arith,
        inside,
        long,
        length-append (take start xs) (ys ++ drop size (drop start xs)),
        length-append ys (drop size (drop start xs)),
        length-take-le start xs (omega (arith, inside)),
        length-drop size (drop start xs),
        length-drop start xs,
      )

  before : (i : ℕ) → i < start → slice_get xs i ≡ Some is → slice_get new i ≡ Some is
  before i low known =
      slice_get-get_or new i is (omega (arith, low, inside, new-length))
      ∙ ap Some (
      get_or_append_left (take start xs) (ys ++ drop size (drop start xs)) is i
      (omega (arith, low, length-take-le start xs (omega (arith, inside))))
      ∙ get_or-take start xs i is low
      ∙ get_or_from_slice_get xs i is is known
      )

  within : (i : ℕ) → start ≤ i → i < start + size → slice_get ys (i - start) ≡ Some is → slice_get new i ≡ Some is
  within i from low known =
      slice_get-get_or new i is (omega (arith, low, inside, new-length))
      ∙ ap Some (
      get_or-append_right (take start xs) (ys ++ drop size (drop start xs)) start i is
      (length-take-le start xs (omega (arith, inside))) from
      ∙ get_or_append_left ys (drop size (drop start xs)) is (i - start) (omega (arith, from, low, long))
      ∙ get_or_from_slice_get ys (i - start) is is known
      )

-- what stands at each place of a list to which a part is written
pub each-written : {X : Type 0} (xs ys : List X) (start size : ℕ) (is : ℕ → X) → length ys ≡ size
    → start + size ≤ length xs
    → ((i : ℕ) → i < start → slice_get xs i ≡ Some (is i))
    → ((l : ℕ) → l < size → slice_get ys l ≡ Some (is (start + l)))
    → (i : ℕ) → i < start + size → slice_get (written xs ys start size) i ≡ Some (is i)
each-written xs ys start size is long inside earlier here i low = elim (cases_lt i start) [
  | inl below ↦ before xs ys start size (is i) long inside i below (earlier i below)
  | inr from ↦
      let place : start + (i - start) ≡ i = omega (arith, from) in
      within xs ys start size (is i) long inside i from low
      (here (i - start) (omega (arith, from, low)) ∙ ap (λ k. Some (is k)) place)
]
