-- Laws of the numbers below an order as residues.
use Rattle.std.{specs.Prelude.{◌≡◌, ℕ, ◌-◌, ◌<◌, ◌%◌, ◌^◌, nat_eq}, proofs.Common.{sym, arith}}
use Rattle.std.proofs.{Math.Nat.mod-eq_of_lt, lemmas.Bool.{eqb-true, eq-eqb}, Math.Bridge.le_prop}
use mathlib.Core.HLevel.{is_prop→PathP}
use Rattle.p3_field_core.specs.{Equality.{IsExact, exact-by}, Residues.IsResidues, ResidueLaws.laws-of-injective}
use Rattle.p3_small_primes.specs.SmallPrimes.{number, element, residues_below}
use Rattle.p3_small_primes.specs.declared.small_prime.SmallPrime.{SmallPrime}

-- elements with the same number are equal
pub number-injective : {order : ℕ} (x y : SmallPrime order) → number x ≡ number y → x ≡ y
number-injective {order} x y e =
    λ i. record {
      value = e i;
      canonical = is_prop→PathP (λ j. e j < order) (λ j. le_prop) x.canonical y.canonical i;
    }

pub laws : (order : ℕ) (above_one : 1 < order) → IsResidues (residues_below order above_one)
laws order above_one =
    laws-of-injective (residues_below order above_one) above_one (λ x. x.canonical) (λ n _. n % order) number-injective

-- elements compare equal exactly where they are the same
pub compared-by-numbers : {order : ℕ} → IsExact (λ (x y : SmallPrime order). nat_eq (number x) (number y))
compared-by-numbers = exact-by number (λ x y. (eqb-true x y, eq-eqb x y)) number-injective

-- an element is the element of its number
pub of_number : {order : ℕ} (above_one : 1 < order) (x : SmallPrime order) → x ≡ element order above_one (number x)
of_number {order} above_one x = sym ((laws order above_one).of_number x)

-- 0, 1 and the order minus 1 are canonical numbers
pub zero-canonical : {order : ℕ} → 1 < order → 0 % order ≡ 0
zero-canonical above_one = mod-eq_of_lt (omega (arith, above_one))

pub one-canonical : {order : ℕ} → 1 < order → 1 % order ≡ 1
one-canonical above_one = mod-eq_of_lt above_one

pub last-canonical : {order : ℕ} → 1 < order → (order - 1) % order ≡ order - 1
last-canonical above_one = mod-eq_of_lt (omega (arith, above_one))

pub fits_64 : {order : ℕ} → order < 2 ^ 32 → order < 2 ^ 64
fits_64 fits = omega (arith, fits)
