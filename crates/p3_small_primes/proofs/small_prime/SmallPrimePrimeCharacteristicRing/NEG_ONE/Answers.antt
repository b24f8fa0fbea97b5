use Rattle.p3_small_primes.specs.SmallPrimeLaws.{of_number}
use Rattle.p3_small_primes.proofs.small_prime.SmallPrimePrimeCharacteristicRing.NEG_ONE.Goals as goal

-- the number is below the order, so it is the canonical one
pub returns : goal.returns
returns g c = of_number _ _
