-- Laws of bridges between fields.
use Rattle.std.proofs.Common.{◌≡◌, ◌↔◌, ℕ, zero, suc, ◌<◌, ◌≤◌, ◌+◌, ◌*◌, ◌/◌, ◌%◌, ◌^◌, List, [], ◌∷◌, length}
use Rattle.std.{proofs.Common.{map, get_or, refl, sym, ap, ap₂, ◌∙◌, subst, inl, inr, arith, pow_mono}, specs.List.All}
use Rattle.std.proofs.Math.Nat.{pow-zero, pow-succ', pow-le-pow_left, mod-eq_of_lt, mod-lt, mul-le-mul_left}
use Rattle.std.proofs.{Math.Nat.{mul-le-mul_right, pow-le-pow_right}, lemmas.Nat.pow-add, lemmas.Bool.cases_lt}
use Rattle.std.proofs.lemmas.{List.{length-map, get_or-map}, List.Elements.All-map}
use Rattle.p3_field_core.specs.Residues.{Residues, IsResidues}
use Rattle.p3_field_core.specs.ResidueLaws.{number-injective, number_of-below, of-injective}
use Rattle.p3_field_bridge.specs.{Digits.{number_in, digit_at}, DigitLaws.digit_at-number_in}
use Rattle.p3_field_bridge.specs.DigitLaws.{number_in-below, number_in-injective, same_digits, digits_same}
use Rattle.p3_field_bridge.specs.Bridges.{packed, digit_of, AreRadixBits, AreCounts}

-- ---- counts of bits

-- the least number of bits that suffices
pub least_bits : (order bits : ℕ) → order ≤ 2 ^ bits → 2 ^ bits < 2 * order → AreRadixBits order bits
least_bits order bits enough few = record {
  enough = enough;
  least = λ k reached. elim (cases_lt k bits) [
    | inl fewer ↦
        let more : suc k ≤ bits = omega (arith, fewer) in
        let grown : 2 ^ suc k ≤ 2 ^ bits = pow_mono more in
        let double : 2 ^ suc k ≡ 2 * 2 ^ k = pow-succ' 2 k in
        absurd (omega (arith, grown, double, few, reached))
    | inr enough_bits ↦ enough_bits
  ];
}

module _ (order bits : ℕ) (radix : AreRadixBits order bits) where
  -- an order above 1 needs at least one bit
  pub some_bits : 1 < order → 1 ≤ bits
  some_bits above_one = elim (cases_lt 0 bits) [
    | inl some ↦ omega (arith, some)
    | inr none ↦
        let is : bits ≡ 0 = omega (arith, none) in
        let reached : order ≤ 2 ^ 0 = subst (λ (b : ℕ). order ≤ 2 ^ b) is radix.enough in
        absurd (omega (arith, above_one, reached))
  ]

  pub at_most_64 : order < 2 ^ 64 → bits ≤ 64
  at_most_64 fits = radix.least 64 (omega (arith, fits))

  -- the least number of bits for one order is unique
  pub same_bits : (other : ℕ) → AreRadixBits order other → bits ≡ other
  same_bits other is = omega (arith, radix.least other is.enough, is.least bits radix.enough)

-- ---- counts of elements and of digits

-- of a larger order every bound holds
pub counts_of_greater : (order greater bits absorb squeeze : ℕ) → 1 ≤ absorb → 1 ≤ squeeze
    → 2 ^ (bits * absorb) ≤ greater → order ^ squeeze ≤ greater → AreCounts order greater bits absorb squeeze
counts_of_greater order greater bits absorb squeeze absorb_one squeeze_one absorb_fits squeeze_fits = record {
  absorb_one = λ _. absorb_one;
  squeeze_one = λ _. squeeze_one;
  absorb_fits = λ _. absorb_fits;
  squeeze_fits = λ _. squeeze_fits;
}

-- of an order that is not larger nothing is required
pub counts_of_no_greater : (order other bits absorb squeeze : ℕ) → other ≤ order
    → AreCounts order other bits absorb squeeze
counts_of_no_greater order other bits absorb squeeze no_greater = record {
  absorb_one = λ greater. absurd (omega (arith, no_greater, greater));
  squeeze_one = λ greater. absurd (omega (arith, no_greater, greater));
  absorb_fits = λ greater. absurd (omega (arith, no_greater, greater));
  squeeze_fits = λ greater. absurd (omega (arith, no_greater, greater));
}

-- if a power of two is at most an order of fewer than 64 bits, its exponent is smaller
exponent_below_64 : (k greater : ℕ) → 2 ^ k ≤ greater → greater < 2 ^ 64 → k < 64
exponent_below_64 k greater fits small = elim (cases_lt k 64) [
  | inl below ↦ below
  | inr above ↦
      let grown : 2 ^ 64 ≤ 2 ^ k = pow_mono above in
      absurd (omega (arith, grown, fits, small))
]

-- the counts are below 64
pub counts_below_64 : (order greater bits absorb squeeze : ℕ) → AreRadixBits order bits
    → AreCounts order greater bits absorb squeeze → 1 < order → order < greater → greater < 2 ^ 64
    → (absorb < 64) × (squeeze < 64)
counts_below_64 order greater bits absorb squeeze radix counts above_one is_greater small =
    let some = some_bits order bits radix above_one in
    let all_bits : absorb ≤ bits * absorb =
    let once : 1 * absorb ≤ bits * absorb = mul-le-mul_right absorb some in
    omega (arith, once) in
    let few_bits = exponent_below_64 (bits * absorb) greater (counts.absorb_fits is_greater) small in
    let two : 2 ≤ order = omega (arith, above_one) in
    let power : 2 ^ squeeze ≤ order ^ squeeze = pow-le-pow_left two squeeze in
    let within : 2 ^ squeeze ≤ greater = omega (arith, power, counts.squeeze_fits is_greater) in
    (omega (arith, all_bits, few_bits), exponent_below_64 squeeze greater within small)

-- ---- packing

power_of_power : (base bits count : ℕ) → (base ^ bits) ^ count ≡ base ^ (bits * count)
power_of_power base bits zero =
    let none : 0 ≡ bits * 0 = omega arith in
    pow-zero (base ^ bits) ∙ sym (pow-zero base) ∙ ap (λ k. base ^ k) none
power_of_power base bits (suc count) =
    let more : bits + bits * count ≡ bits * suc count = omega arith in
    pow-succ' (base ^ bits) count
    ∙ ap (λ p. base ^ bits * p) (power_of_power base bits count)
    ∙ sym (pow-add base bits (bits * count))
    ∙ ap (λ k. base ^ k) more

map-injective : {A B : Type 0} (f : A → B) → ((x y : A) → f x ≡ f y → x ≡ y) → (xs ys : List A)
    → length xs ≡ length ys → map f xs ≡ map f ys → xs ≡ ys
map-injective f tells [] [] same e = refl
map-injective f tells [] (y ∷ ys) same e = absurd (omega (arith, same))
map-injective f tells (x ∷ xs) [] same e = absurd (omega (arith, same))
map-injective f tells (x ∷ xs) (y ∷ ys) same e =
    let first : f x ≡ f y = cc in
    let rest : map f xs ≡ map f ys = cc in
    ap₂ (λ z zs. z ∷ zs) (tells x y first) (map-injective f tells xs ys (omega (arith, same)) rest)

module _ {F P : Type 0} (inner : Residues F) (outer : Residues P) (inner_laws : IsResidues inner)
    (outer_laws : IsResidues outer) where
  numbers_below : (bits : ℕ) → AreRadixBits inner.order bits → (xs : List F)
      → All (λ n. n < 2 ^ bits) (map inner.number xs)
  numbers_below bits radix xs =
      All-map (λ n. n < 2 ^ bits) inner.number xs
      (λ k d _. let below = inner_laws.below (get_or xs k d) in omega (arith, below, radix.enough))

  -- the number of so few packed elements is below the order
  pub packed-below : (bits absorb squeeze : ℕ) → AreRadixBits inner.order bits
      → AreCounts inner.order outer.order bits absorb squeeze → inner.order < outer.order
      → (xs : List F) → length xs ≤ absorb → number_in (2 ^ bits) (map inner.number xs) < outer.order
  packed-below bits absorb squeeze radix counts greater xs few =
      let numbers = map inner.number xs in
      let below = number_in-below (2 ^ bits) numbers (numbers_below bits radix xs) in
      let length_is = length-map xs inner.number in
      let power : (2 ^ bits) ^ length numbers ≡ 2 ^ (bits * length xs) =
      power_of_power 2 bits (length numbers) ∙ ap (λ k. 2 ^ (bits * k)) length_is in
      let few_bits : bits * length xs ≤ bits * absorb = mul-le-mul_left bits few in
      let grown : 2 ^ (bits * length xs) ≤ 2 ^ (bits * absorb) = pow_mono few_bits in
      omega (arith, below, power, grown, counts.absorb_fits greater)

  -- equally many elements packed into the same element are the same, if they are so few
  pub packed-injective : (bits absorb squeeze : ℕ) → AreRadixBits inner.order bits
      → AreCounts inner.order outer.order bits absorb squeeze → inner.order < outer.order
      → (xs ys : List F) → length xs ≡ length ys → length xs ≤ absorb
      → packed inner outer bits xs ≡ packed inner outer bits ys → xs ≡ ys
  packed-injective bits absorb squeeze radix counts greater xs ys same few e =
      let x_numbers = map inner.number xs in
      let y_numbers = map inner.number ys in
      let number =
      of-injective outer outer_laws (number_in (2 ^ bits) x_numbers) (number_in (2 ^ bits) y_numbers)
      (packed-below bits absorb squeeze radix counts greater xs few)
      (packed-below bits absorb squeeze radix counts greater ys (omega (arith, same, few))) e in
      let lengths : length x_numbers ≡ length y_numbers =
      length-map xs inner.number ∙ same ∙ sym (length-map ys inner.number) in
      let numbers =
      number_in-injective (2 ^ bits) x_numbers y_numbers (numbers_below bits radix xs) (numbers_below bits radix ys)
      lengths number in
      map-injective inner.number (number-injective inner inner_laws) xs ys same numbers

  -- ---- digits

  digit-below : (n place : ℕ) → digit_at inner.order n place < inner.order
  digit-below n place =
      let positive : 0 < inner.order = omega (arith, inner_laws.above_one) in
      mod-lt (n / inner.order ^ place) positive

  -- the digits below a place are the same exactly where the remainders at that place are
  pub digits-tell : (x y : P) (count : ℕ)
      → ((i : ℕ) → i < count → digit_of inner outer x i ≡ digit_of inner outer y i)
      ↔ (outer.number x % inner.order ^ count ≡ outer.number y % inner.order ^ count)
  digits-tell x y count =
      let positive : 0 < inner.order = omega (arith, inner_laws.above_one) in (
        λ same.
            same_digits inner.order positive (outer.number x) (outer.number y) count
            (λ i inside.
            of-injective inner inner_laws _ _ (digit-below (outer.number x) i) (digit-below (outer.number y) i)
            (same i inside)),
        λ same i inside.
            ap inner.of (digits_same inner.order positive (outer.number x) (outer.number y) count same i inside),
      )

  -- elements whose numbers have no more digits are determined by these
  pub digits-injective : (x y : P) (count : ℕ) → outer.number x < inner.order ^ count
      → outer.number y < inner.order ^ count
      → ((i : ℕ) → i < count → digit_of inner outer x i ≡ digit_of inner outer y i) → x ≡ y
  digits-injective x y count x_below y_below same =
      number-injective outer outer_laws x y
      (sym (mod-eq_of_lt x_below) ∙ (digits-tell x y count).0 same ∙ mod-eq_of_lt y_below)

  -- any so few elements are the first digits of some element
  pub digits-any : (bits absorb squeeze : ℕ) → AreCounts inner.order outer.order bits absorb squeeze
      → inner.order < outer.order → (xs : List F) → length xs ≤ squeeze
      → (x : P) × ((i : ℕ) (d : F) → i < length xs → digit_of inner outer x i ≡ get_or xs i d)
  digits-any bits absorb squeeze counts greater xs few =
      let positive : 0 < inner.order = omega (arith, inner_laws.above_one) in
      let numbers = map inner.number xs in
      let n = number_in inner.order numbers in
      let small : All (λ d. d < inner.order) numbers =
      All-map (λ d. d < inner.order) inner.number xs (λ k d _. inner_laws.below (get_or xs k d)) in
      let length_is = length-map xs inner.number in
      let short : length numbers ≤ squeeze = omega (arith, length_is, few) in
      let grown : inner.order ^ length numbers ≤ inner.order ^ squeeze = pow-le-pow_right positive short in
      let below : n < outer.order =
      omega (arith, number_in-below inner.order numbers small, grown, counts.squeeze_fits greater) in
      let number_is = number_of-below outer outer_laws n below in (
        outer.of n,
        λ i d inside.
            ap (λ k. inner.of (digit_at inner.order k i)) number_is
            ∙ ap inner.of (digit_at-number_in inner.order positive numbers small i (omega (arith, length_is, inside)))
            ∙ ap inner.of (get_or-map inner.number xs i d 0 inside)
            ∙ inner_laws.of_number (get_or xs i d),
      )
