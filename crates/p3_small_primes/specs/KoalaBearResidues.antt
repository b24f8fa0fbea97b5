-- The field of order 127 * 2 ^ 24 + 1 as residues.
use Rattle.std.proofs.Common.{lit<}
use Rattle.p3_field_core.specs.Residues.{Residues}
use Rattle.p3_small_primes.specs.{SmallPrimes.residues_below, declared.small_prime.SmallPrime.SmallPrime}

-- the elements of the field
abbrev pub KoalaBear : Type 0
KoalaBear = SmallPrime 2130706433

abbrev pub residues : Residues KoalaBear
residues = residues_below 2130706433 (lit< tt)
