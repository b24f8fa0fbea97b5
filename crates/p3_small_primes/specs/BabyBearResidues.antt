-- The field of order 15 * 2 ^ 27 + 1 as residues.
use Rattle.std.proofs.Common.{lit<}
use Rattle.p3_field_core.specs.Residues.{Residues}
use Rattle.p3_small_primes.specs.{SmallPrimes.residues_below, declared.small_prime.SmallPrime.SmallPrime}

-- the elements of the field
abbrev pub BabyBear : Type 0
BabyBear = SmallPrime 2013265921

abbrev pub residues : Residues BabyBear
residues = residues_below 2013265921 (lit< tt)
