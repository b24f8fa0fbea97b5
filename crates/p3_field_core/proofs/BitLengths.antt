-- Bit lengths.
use Rattle.std.proofs.Common.{◌≡◌, ℕ, suc, ◌+◌, ◌*◌, ◌-◌, ◌^◌, ◌<◌, ◌≤◌, inl, inr, subst, pow-suc, pow_mono, arith}
use Rattle.std.proofs.lemmas.{Bool.cases_lt, Nat.leading_length}
use lib.Count.{count_leading_zeros}

-- a power of two that reaches a number is no less than one at most twice what is below the number
exponent-least : (n m k : ℕ) → 2 ^ m ≤ 2 * (n - 1) + 1 → 1 ≤ n → n ≤ 2 ^ k → m ≤ k
exponent-least n m k least positive enough = elim (cases_lt k m) [
  | inl below ↦
      let more : suc k ≤ m = omega arith in
      let double : 2 ^ suc k ≡ 2 ^ k * 2 = pow-suc 2 k in
      let grown : 2 ^ suc k ≤ 2 ^ m = pow_mono more in
      absurd (omega arith)
  | inr within ↦ within
]

-- the bit length of what is below a number
module _ (n result : ℕ) (positive : 1 ≤ n) (fits : n < 2 ^ 64) (is : result ≡ 64 - count_leading_zeros 64 (n - 1)) where
  the_length : (result < 65) × (n - 1 < 2 ^ result) × (2 ^ result ≤ 2 * (n - 1) + 1)
  the_length =
      let below : n - 1 < 2 ^ 64 = omega arith in
      let found = leading_length 64 (n - 1) below in
      let same : found.0 ≡ result = omega (arith, found.1) in
      let P : ℕ → Type 0 = λ m. (m < 65) × (n - 1 < 2 ^ m) × (2 ^ m ≤ 2 * (n - 1) + 1) in
      let small : found.0 < 65 = omega (arith, found.1) in
      subst P same (small, found.2, found.3)

  pub length-enough : n ≤ 2 ^ result
  length-enough = omega (arith, the_length.1)

  pub length-least : (k : ℕ) → n ≤ 2 ^ k → result ≤ k
  length-least k enough = exponent-least n result k the_length.2 positive enough
