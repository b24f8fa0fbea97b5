-- The elements of numbers that are put into lanes.
use Rattle.std.proofs.Common.{◌≡◌, ℕ, ◌<◌, ◌∙◌, Bool, true, false, cond, List, length, nat_eq, slice_index, slice_set, inl, inr, sym, ap, arith}
use Rattle.std.proofs.lemmas.{Bool.{cases_eq, eq-eqb, ne_eqb, cond-true, cond-false}, List.get_or-set_other}
use Rattle.std.proofs.lemmas.Grind.{get_or-set_at}
use Rattle.p3_small_primes.specs.{SmallPrimes.{number, element}, SmallPrimeLaws.of_number}
use Rattle.p3_small_primes.specs.declared.small_prime.SmallPrime.{SmallPrime}

module _ {order : ℕ} (above_one : 1 < order) (value : SmallPrime order) where
  -- the number of an element
  pub element_of_its : (n k : ℕ) → n ≡ k → k ≡ number value → element order above_one n ≡ value
  element_of_its n k e is = ap (element order above_one) (e ∙ is) ∙ sym (of_number above_one value)

  -- the number of an element, or another number
  pub element_of_either : (b : Bool) (n k m : ℕ) → n ≡ cond b k m → k ≡ number value
      → element order above_one n ≡ cond b value (element order above_one m)
  element_of_either true n k m e is = element_of_its n k e is
  element_of_either false n k m e is = ap (element order above_one) e

-- the number in a lane, after one was put in some lane
pub put_in_lane : (n : ℕ) (xs : List ℕ) → length xs ≡ n → (i : ℕ) → i < n → (x l : ℕ)
    → slice_index (slice_set xs i x) l ≡ cond (nat_eq l i) x (slice_index xs l)
put_in_lane n xs long i lt x l = elim (cases_eq l i) [
  | inl here ↦ get_or-set_at xs i l x 0 here (omega (arith, lt, long)) ∙ sym (cond-true _ _ _ (eq-eqb l i here))
  | inr other ↦ get_or-set_other xs i l x 0 other ∙ sym (cond-false _ _ _ (ne_eqb l i other))
]
