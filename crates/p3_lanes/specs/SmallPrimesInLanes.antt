-- Numbers side by side in lanes, and their elements.
use Rattle.std.specs.Prelude.{◌≡◌, ℕ, ◌<◌, List, slice_index}
use Rattle.p3_small_primes.specs.{SmallPrimes.element, declared.small_prime.SmallPrime.SmallPrime}

-- the element in a lane, given by the number there
abbrev pub element_in : {order : ℕ} → 1 < order → ℕ → List ℕ → SmallPrime order
element_in {order} above_one l numbers = element order above_one (slice_index numbers l)

-- each of `n` lanes has the result of an operation on the elements in that lane of two other values
abbrev pub IsInEachLane : {order : ℕ} → 1 < order → ℕ → (SmallPrime order → SmallPrime order → SmallPrime order) →
    List ℕ → List ℕ → List ℕ → Type 0
IsInEachLane above_one n operation xs ys zs = (l : ℕ) → l < n →
    element_in above_one l zs ≡ operation (element_in above_one l xs) (element_in above_one l ys)
