-- The numbers below an order as residues.
use Rattle.std.{specs.Prelude.{ℕ, ◌<◌, ◌%◌}, proofs.Common.arith, proofs.Math.Nat.mod-lt}
use Rattle.p3_field_core.specs.Residues.{Residues}
use Rattle.p3_small_primes.specs.declared.small_prime.SmallPrime.{SmallPrime}

-- the canonical number of an element
abbrev pub number : {order : ℕ} → SmallPrime order → ℕ
number x = x.value

-- the remainder of a number modulo the order is below the order
pub remainder_below : (order : ℕ) → 1 < order → (n : ℕ) → n % order < order
remainder_below order above_one n = mod-lt n (omega (arith, above_one))

-- the element of a number modulo the order
abbrev pub element : (order : ℕ) → 1 < order → ℕ → SmallPrime order
element order above_one n = record { value = n % order; canonical = remainder_below order above_one n }

abbrev pub residues_below : (order : ℕ) → 1 < order → Residues (SmallPrime order)
residues_below order above_one = record { order = order; number = number; of = element order above_one }
