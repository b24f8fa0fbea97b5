-- The field of order 257 as residues.
use Rattle.std.proofs.Common.{lit<}
use Rattle.p3_field_core.specs.Residues.{Residues}
use Rattle.p3_small_primes.specs.{SmallPrimes.residues_below, declared.small_prime.SmallPrime.SmallPrime}

-- the elements of the field
abbrev pub F257 : Type 0
F257 = SmallPrime 257

abbrev pub residues : Residues F257
residues = residues_below 257 (lit< tt)
