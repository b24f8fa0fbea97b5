-- The greatest number of bits whose power of two is below an order.
use Rattle.std.proofs.Common.{◌≡◌, ℕ, zero, suc, ◌<◌, ◌≤◌, ◌+◌, ◌-◌, ◌*◌, ◌%◌, ◌^◌, Bool, true, false, nat_lt, Some}
use Rattle.std.proofs.{Common.{if◌then◌else◌, refl, ap, ◌∙◌, inl, inr, arith, add-one}, lemmas.Bool.Decides.nat_tests}
use Rattle.std.proofs.{lemmas.{Nat.{pow_below, pow_pos}, Bool.cases_lt}, Math.{Pow.pow_mono, Nat.mod-eq_of_lt}}
use Rattle.p3_challenger_core.specs.Sampling.{greatest_below, most_bits_of}

choose : (b : Bool) (x y z : ℕ) → (b ≡ true → x ≡ z) → (b ≡ false → y ≡ z) → (if b then x else y) ≡ z
choose true x y z holds fails = holds refl
choose false x y z holds fails = fails refl

lt-true : (n m : ℕ) → nat_lt n m ≡ true → n < m
lt-true n m h = grind (arith, nat_tests)

lt-false : (n m : ℕ) → nat_lt n m ≡ false → m ≤ n
lt-false n m h = grind (arith, nat_tests)

-- the result is at most the bound
pub greatest-le : (order k : ℕ) → greatest_below order k ≤ k
unfolding greatest_below
greatest-le order zero = omega arith
greatest-le order (suc k) = grind (arith, nat_tests, greatest-le order k)

exponent_le : (i j n : ℕ) → n ≡ j + 1 → 2 ^ i < 2 ^ n → i ≤ j
exponent_le i j n is below = elim (cases_lt j i) [
  | inl less ↦ let more : n ≤ i = omega arith in absurd (omega (arith, pow_mono more))
  | inr at_most ↦ at_most
]

-- the result is the only number whose power of two is below the order and whose next power is not
pub greatest-is : (order k b : ℕ) → 2 ^ b < order → order ≤ 2 ^ (b + 1) → b ≤ k → greatest_below order k ≡ b
unfolding greatest_below
greatest-is order zero b below enough bound = omega arith
greatest-is order (suc k) b below enough bound =
    choose (nat_lt (2 ^ suc k) order) (suc k) (greatest_below order k) b
    (λ e. omega (arith, exponent_le (suc k) b (b + 1) (omega arith) (omega (arith, lt-true _ _ e))))
    (λ e. greatest-is order k b below enough
    (exponent_le b k (suc k) (omega arith) (omega (arith, lt-false _ _ e))))

under_log : (order m : ℕ) → (order ≤ 2 ^ m → suc m ≤ m) → 2 ^ m < order
under_log order m least = elim (cases_lt (2 ^ m) order) [
  | inl less ↦ less
  | inr more ↦ absurd (omega (arith, least more))
]

-- the result is one less than the least exponent whose power of two is at least the order
pub greatest-log : (order log : ℕ) → 1 < order → order < 2 ^ 64 → order ≤ 2 ^ log → ((k : ℕ) → order ≤ 2 ^ k → log ≤ k)
    → log - 1 ≡ greatest_below order 63
greatest-log order zero above fits enough least = absurd (omega arith)
greatest-log order (suc m) above fits enough least =
    let bound : m ≤ 63 = omega (arith, least 64 (omega arith)) in
    let is = greatest-is order 63 m (under_log order m (least m)) (omega (arith, ap (λ j. 2 ^ j) (add-one m))) bound in
    omega (arith, is)

-- a bit shifted within a word is a power of two, and not 0
pub shifted : (bits : ℕ) → bits < 64 → (1 * 2 ^ bits) % 18446744073709551616 ≡ 2 ^ bits
shifted bits short =
    let below : 1 * 2 ^ bits < 18446744073709551616 = omega (arith, pow_below bits 64 short) in
    let same : 1 * 2 ^ bits ≡ 2 ^ bits = omega arith in
    mod-eq_of_lt below ∙ same

pub shifted-positive : (bits : ℕ) → bits < 64 → 0 < (1 * 2 ^ bits) % 18446744073709551616
shifted-positive bits short = omega (arith, shifted bits short, pow_pos bits)

-- the bound is below 64
pub most_bits-short : (order : ℕ) → most_bits_of order < 64
most_bits-short order = omega (arith, greatest-le order 63)

-- the low bits of a number are below their power of two
pub low_bits-below : (n bits x : ℕ) → Some (n % 2 ^ bits) ≡ Some x → x < 2 ^ bits
low_bits-below n bits x drawn =
    let same : n % 2 ^ bits ≡ x = cc in omega (arith, same, pow_pos bits)
