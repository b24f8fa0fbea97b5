-- The quotient of a number by an order, from the rounded reciprocal of the order: it is exact or one too small.
use Rattle.std.proofs.Common.{◌≡◌, ℕ, ◌+◌, ◌-◌, ◌*◌, ◌/◌, ◌%◌, ◌^◌, ◌<◌, ◌≤◌, ◌∙◌, sym, ap, arith}
use Rattle.std.proofs.Math.Nat.{add-mul, mul-add, mul_assoc, mul_comm, mul-le-mul_right, div-mul-le_self, lt-div-mul-add, add-mul-mod_self_right}
use Rattle.std.proofs.lemmas.Nat.{div-add-mod'}

-- of a number x that is h * 2^30 and less than 2^30 more, with 2^62 as m orders and c more
module _ (order m c x h q : ℕ) (whole : m * order + c ≡ 2 ^ 62) where
  multiplied : h * m * order + h * c ≡ h * 2 ^ 62
  multiplied = ap (λ n. n + h * c) (mul_assoc h m order) ∙ sym (mul-add h (m * order) c) ∙ ap (λ n. h * n) whole

  swapped : q * 2 ^ 32 * order ≡ q * order * 2 ^ 32
  swapped = mul_assoc q (2 ^ 32) order ∙ ap (λ n. q * n) (mul_comm (2 ^ 32) order) ∙ sym (mul_assoc q order (2 ^ 32))

  not_too_large : h * 2 ^ 30 ≤ x → q * 2 ^ 32 ≤ h * m → q * order ≤ x
  not_too_large low le =
      let scaled : q * 2 ^ 32 * order ≤ h * m * order = mul-le-mul_right order le in
      omega (arith, multiplied, swapped)

  one_too_small : x < h * 2 ^ 30 + 2 ^ 30 → h * m < q * 2 ^ 32 + 2 ^ 32 → h < 2 ^ 32 → 2 ^ 30 + c ≤ order
      → x < q * order + (order + order)
  one_too_small high lt small short =
      let more : h * m + 1 ≤ q * 2 ^ 32 + 2 ^ 32 = omega (arith, lt) in
      let scaled : (h * m + 1) * order ≤ (q * 2 ^ 32 + 2 ^ 32) * order = mul-le-mul_right order more in
      let left : (h * m + 1) * order ≡ h * m * order + 1 * order = add-mul (h * m) 1 order in
      let right : (q * 2 ^ 32 + 2 ^ 32) * order ≡ q * 2 ^ 32 * order + 2 ^ 32 * order = add-mul (q * 2 ^ 32) (2 ^ 32) order in
      let under : h ≤ 2 ^ 32 = omega (arith, small) in
      let rest : h * c ≤ 2 ^ 32 * c = mul-le-mul_right c under in
      omega (arith, multiplied, swapped)

module _ (order x : ℕ) (short : 2 ^ 30 + 2 ^ 62 % order ≤ order) (fits : x < 2 ^ 62) where
  abbrev h : ℕ
  h = x / 2 ^ 30

  abbrev m : ℕ
  m = 2 ^ 62 / order

  low : h * 2 ^ 30 ≤ x
  low = div-mul-le_self x (2 ^ 30)

  high : x < h * 2 ^ 30 + 2 ^ 30
  high = lt-div-mul-add {a = x} {b = 2 ^ 30} (omega arith)

  small : h < 2 ^ 32
  small = omega (arith, low)

  whole : m * order + 2 ^ 62 % order ≡ 2 ^ 62
  whole = div-add-mod' (2 ^ 62) order

  quotient_below : (q : ℕ) → q ≡ h * m / 2 ^ 32 → q * order ≤ x
  quotient_below q is =
      let scaled : h * m / 2 ^ 32 * 2 ^ 32 ≤ h * m = div-mul-le_self (h * m) (2 ^ 32) in
      let le : q * 2 ^ 32 ≤ h * m = omega (arith, ap (λ n. n * 2 ^ 32) is) in
      not_too_large order m (2 ^ 62 % order) x h q whole low le

  quotient_near : (q : ℕ) → q ≡ h * m / 2 ^ 32 → x < q * order + (order + order)
  quotient_near q is =
      let scaled : h * m < h * m / 2 ^ 32 * 2 ^ 32 + 2 ^ 32 = lt-div-mul-add {a = h * m} {b = 2 ^ 32} (omega arith) in
      let lt : h * m < q * 2 ^ 32 + 2 ^ 32 = omega (arith, ap (λ n. n * 2 ^ 32) is) in
      one_too_small order m (2 ^ 62 % order) x h q whole high lt small short

-- a product of two numbers that are small
product_below : (a b : ℕ) → a ≤ 2 ^ 31 → b < 2 ^ 31 → a * b < 2 ^ 62
product_below a b le lt = let most : a * b ≤ 2 ^ 31 * b = mul-le-mul_right b le in omega (arith, most)

-- what is left of a number when a multiple that is near is taken off modulo 2^32
rest_of : (x multiple : ℕ) → multiple ≤ x → x < multiple + 2 ^ 32
    → (x % 2 ^ 32 + (2 ^ 32 - multiple % 2 ^ 32)) % 2 ^ 32 ≡ x - multiple
rest_of x multiple le lt = omega arith

-- in a lane: what the code leaves of a product
module _ (order a b x q low rest : ℕ) (small : order ≤ 2 ^ 31) (short : 2 ^ 30 + 2 ^ 62 % order ≤ order)
    (a_below : a < order) (b_below : b < order) (x_is : x ≡ a * b) (q_is : q ≡ x / 2 ^ 30 * (2 ^ 62 / order) / 2 ^ 32)
    (low_is : low ≡ x % 2 ^ 32) (rest_is : rest ≡ (low + (2 ^ 32 - q * order % 2 ^ 32)) % 2 ^ 32) where
  fits : x < 2 ^ 62
  fits =
      let left : a ≤ 2 ^ 31 = omega (arith, a_below, small) in
      let right : b < 2 ^ 31 = omega (arith, b_below, small) in
      let below : a * b < 2 ^ 62 = product_below a b left right in
      omega (arith, x_is, below)

  below : q * order ≤ x
  below = quotient_below order x short fits q q_is

  near : x < q * order + (order + order)
  near = quotient_near order x short fits q q_is

  rest_equal : rest ≡ x - q * order
  rest_equal =
      rest_is ∙ ap (λ n. (n + (2 ^ 32 - q * order % 2 ^ 32)) % 2 ^ 32) low_is
      ∙ rest_of x (q * order) below (omega (arith, near, small))

  pub rest_small : rest < 2 * order
  rest_small = omega (arith, rest_equal, below, near)

  pub rest_congruent : rest % order ≡ a * b % order
  rest_congruent =
      let together : rest + q * order ≡ x = omega (arith, rest_equal, below) in
      sym (add-mul-mod_self_right rest q order) ∙ ap (λ n. n % order) (together ∙ x_is)
