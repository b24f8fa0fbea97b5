-- Laws of numbers by their digits.
use Rattle.std.proofs.Common.{◌≡◌, ℕ, zero, suc, ◌<◌, ◌≤◌, ◌+◌, ◌*◌, ◌/◌, ◌%◌, ◌^◌, List, [], ◌∷◌, length, get_or, refl}
use Rattle.std.proofs.{Common.{sym, ap, ap₂, ◌∙◌, subst, inl, inr, arith}, Math.{Arith.mod-mul, Nat.pow-succ'}}
use Rattle.std.proofs.Math.Nat.{pow-zero, one-le-pow, mul-le-mul_left, mod-one, mod-lt, div-one, div-div-eq-div-mul}
use Rattle.std.{specs.List.All, proofs.lemmas.{Nat.{div-mul-add, mod-mul-add}, Bool.cases_lt}}
use Rattle.p3_field_bridge.specs.Digits.{digit_sum, number_in, digit_at}

-- ---- the number that digits are

factored : (base digit power rest : ℕ) → digit * (base * power) + base * rest ≡ base * (digit * power + rest)
factored base digit power rest = omega arith

-- digits one place higher are worth the base times as much
digit_sum-higher : (base place : ℕ) (digits : List ℕ)
    → digit_sum base (suc place) digits ≡ base * digit_sum base place digits
digit_sum-higher base place [] = omega arith
digit_sum-higher base place (digit ∷ digits) =
    ap₂ (λ p r. digit * p + r) (pow-succ' base place) (digit_sum-higher base (suc place) digits)
    ∙ factored base digit (base ^ place) (digit_sum base (suc place) digits)

once : (digit rest : ℕ) → digit * 1 + rest ≡ rest + digit
once digit rest = omega arith

-- a digit below others
pub number_in-cons : (base digit : ℕ) (digits : List ℕ)
    → number_in base (digit ∷ digits) ≡ base * number_in base digits + digit
number_in-cons base digit digits =
    ap₂ (λ p r. digit * p + r) (pow-zero base) (digit_sum-higher base 0 digits)
    ∙ once digit (base * number_in base digits)

-- ---- digits below the base

first_below : (base digit : ℕ) (digits : List ℕ) → All (λ d. d < base) (digit ∷ digits) → digit < base
first_below base digit digits below = below zero 0 (omega arith)

rest_below : (base digit : ℕ) (digits : List ℕ) → All (λ d. d < base) (digit ∷ digits) → All (λ d. d < base) digits
rest_below base digit digits below k d inside = below (suc k) d (omega (arith, inside))

one_more-below : (base digit rest power : ℕ) → digit < base → base * suc rest ≤ base * power
    → base * rest + digit < base * power
one_more-below base digit rest power small grown = omega (arith, small, grown)

-- the number of digits below the base is below the base to the number of places
pub number_in-below : (base : ℕ) (digits : List ℕ) → All (λ d. d < base) digits
    → number_in base digits < base ^ length digits
number_in-below base [] below = subst (λ (p : ℕ). 0 < p) (sym (pow-zero base)) (omega arith)
number_in-below base (digit ∷ digits) below =
    let rest = number_in-below base digits (rest_below base digit digits below) in
    let more : suc (number_in base digits) ≤ base ^ length digits = omega (arith, rest) in
    let least =
    one_more-below base digit (number_in base digits) (base ^ length digits) (first_below base digit digits below)
    (mul-le-mul_left base more) in
    subst (λ (n : ℕ). n < base ^ suc (length digits)) (sym (number_in-cons base digit digits))
    (subst (λ (p : ℕ). base * number_in base digits + digit < p) (sym (pow-succ' base (length digits))) least)

quotient-is : (base digit rest : ℕ) → digit < base → (base * rest + digit) / base ≡ rest
quotient-is base digit rest small =
    let turned : base * rest + digit ≡ rest * base + digit = omega arith in
    ap (λ n. n / base) turned ∙ div-mul-add rest base digit small

remainder-is : (base digit rest : ℕ) → digit < base → (base * rest + digit) % base ≡ digit
remainder-is base digit rest small =
    let turned : base * rest + digit ≡ rest * base + digit = omega arith in
    ap (λ n. n % base) turned ∙ mod-mul-add rest base digit small

-- equally many digits of the same number are the same
pub number_in-injective : (base : ℕ) (a b : List ℕ) → All (λ d. d < base) a → All (λ d. d < base) b
    → length a ≡ length b → number_in base a ≡ number_in base b → a ≡ b
number_in-injective base [] [] a_below b_below same e = refl
number_in-injective base [] (y ∷ b) a_below b_below same e = absurd (omega (arith, same))
number_in-injective base (x ∷ a) [] a_below b_below same e = absurd (omega (arith, same))
number_in-injective base (x ∷ a) (y ∷ b) a_below b_below same e =
    let x_small = first_below base x a a_below in
    let y_small = first_below base y b b_below in
    let numbers = sym (number_in-cons base x a) ∙ e ∙ number_in-cons base y b in
    let first : x ≡ y =
    sym (remainder-is base x (number_in base a) x_small) ∙ ap (λ n. n % base) numbers
    ∙ remainder-is base y (number_in base b) y_small in
    let above : number_in base a ≡ number_in base b =
    sym (quotient-is base x (number_in base a) x_small) ∙ ap (λ n. n / base) numbers
    ∙ quotient-is base y (number_in base b) y_small in
    let rest =
    number_in-injective base a b (rest_below base x a a_below) (rest_below base y b b_below) (omega (arith, same))
    above in
    ap₂ (λ d ds. d ∷ ds) first rest

-- ---- the digits of a number

module _ (base : ℕ) (positive : 0 < base) where
  -- the remainder at the next place: the digit there, and the remainder of the lower places
  one_place : (n count : ℕ)
      → n % base ^ suc count ≡ digit_at base n count * base ^ count + n % base ^ count
  one_place n count =
      ap (λ p. n % p) (pow-succ' base count) ∙ mod-mul n positive (one-le-pow count base positive)

  -- numbers with the same digits below a place have the same remainder there
  pub same_digits : (n m count : ℕ) → ((i : ℕ) → i < count → digit_at base n i ≡ digit_at base m i)
      → n % base ^ count ≡ m % base ^ count
  same_digits n m zero same =
      let all : (k : ℕ) → k % base ^ 0 ≡ 0 = λ k. ap (λ p. k % p) (pow-zero base) ∙ mod-one k in
      all n ∙ sym (all m)
  same_digits n m (suc count) same =
      let lower = same_digits n m count (λ i below. same i (omega (arith, below))) in
      one_place n count
      ∙ ap₂ (λ d r. d * base ^ count + r) (same count (omega arith)) lower
      ∙ sym (one_place m count)

  -- numbers with the same remainder at a place have the same digits below it
  pub digits_same : (n m count : ℕ) → n % base ^ count ≡ m % base ^ count
      → (i : ℕ) → i < count → digit_at base n i ≡ digit_at base m i
  digits_same n m zero same i below = absurd (omega (arith, below))
  digits_same n m (suc count) same i below =
      let power = base ^ count in
      let small : (k : ℕ) → k % power < power = λ k. mod-lt k (one-le-pow count base positive) in
      let sums = sym (one_place n count) ∙ same ∙ one_place m count in
      let digit : digit_at base n count ≡ digit_at base m count =
      sym (div-mul-add (digit_at base n count) power (n % power) (small n)) ∙ ap (λ k. k / power) sums
      ∙ div-mul-add (digit_at base m count) power (m % power) (small m) in
      let lower : n % power ≡ m % power =
      sym (mod-mul-add (digit_at base n count) power (n % power) (small n)) ∙ ap (λ k. k % power) sums
      ∙ mod-mul-add (digit_at base m count) power (m % power) (small m) in
      elim (cases_lt i count) [
        | inl inside ↦ digits_same n m count lower i inside
        | inr end ↦
            let is : i ≡ count = omega (arith, end, below) in
            ap (digit_at base n) is ∙ digit ∙ sym (ap (digit_at base m) is)
      ]

-- digits are the digits of their number
pub digit_at-number_in : (base : ℕ) → 0 < base → (digits : List ℕ) → All (λ d. d < base) digits
    → (i : ℕ) → i < length digits → digit_at base (number_in base digits) i ≡ get_or digits i 0
digit_at-number_in base positive [] below i inside = absurd (omega (arith, inside))
digit_at-number_in base positive (digit ∷ digits) below zero inside =
    let n = number_in base (digit ∷ digits) in
    ap (λ p. n / p % base) (pow-zero base)
    ∙ ap (λ k. k % base) (div-one n)
    ∙ ap (λ k. k % base) (number_in-cons base digit digits)
    ∙ remainder-is base digit (number_in base digits) (first_below base digit digits below)
digit_at-number_in base positive (digit ∷ digits) below (suc i) inside =
    let n = number_in base (digit ∷ digits) in
    let above : n / base ≡ number_in base digits =
    ap (λ k. k / base) (number_in-cons base digit digits)
    ∙ quotient-is base digit (number_in base digits) (first_below base digit digits below) in
    ap (λ p. n / p % base) (pow-succ' base i)
    ∙ ap (λ k. k % base) (sym (div-div-eq-div-mul n base (base ^ i)))
    ∙ ap (λ k. k / base ^ i % base) above
    ∙ digit_at-number_in base positive digits (rest_below base digit digits below) i (omega (arith, inside))
