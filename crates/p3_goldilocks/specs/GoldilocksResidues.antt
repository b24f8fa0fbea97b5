-- The field of order 2 ^ 64 - 2 ^ 32 + 1 as residues.
use Rattle.std.{specs.Prelude.{ℕ, ◌<◌, ◌%◌}, proofs.Common.lit<, proofs.Math.Nat.mod-lt}
use Rattle.p3_field_core.specs.Residues.{Residues}
use Rattle.p3_goldilocks.specs.declared.goldilocks.Goldilocks.{Goldilocks}

abbrev pub order : ℕ
order = 18446744069414584321

-- the canonical number of an element
abbrev pub number : Goldilocks → ℕ
number x = x.value

-- the remainder of a number modulo the order is below the order
pub remainder_below : (n : ℕ) → n % order < order
remainder_below n = mod-lt n (lit< tt)

-- the element of a number modulo the order
abbrev pub element : ℕ → Goldilocks
element n = record { value = n % order; canonical = remainder_below n }

abbrev pub residues : Residues Goldilocks
residues = record { order = order; number = number; of = element }
