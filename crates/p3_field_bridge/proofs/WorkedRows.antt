-- Worked rows, computed on the definitions.
use Rattle.std.proofs.Common.{◌≡◌, ℕ, [], ◌∷◌, List, map, refl}
use Rattle.p3_small_primes.specs.{BabyBearResidues.residues as baby_bear, F257Residues.residues as f257}
use Rattle.p3_goldilocks.specs.GoldilocksResidues.{residues as goldilocks}
use Rattle.p3_field_bridge.specs.Bridges.{packed, digit_of}

-- the number of the element that packs the elements of numbers
abbrev packed_in_baby_bear : List ℕ → ℕ
packed_in_baby_bear numbers = baby_bear.number (packed f257 baby_bear 9 (map f257.of numbers))

-- three scalars, one, and none
scalars : (packed_in_baby_bear (1 ∷ 2 ∷ 3 ∷ []) ≡ 787457)
    × (packed_in_baby_bear (5 ∷ []) ≡ 5)
    × (packed_in_baby_bear [] ≡ 0)
scalars = (refl, refl, refl)

-- the fifth of five is worth 2 ^ 36, which is 34 times the order and 268435422 more
too_many : packed_in_baby_bear (0 ∷ 0 ∷ 0 ∷ 0 ∷ 1 ∷ []) ≡ 268435422
too_many = refl

-- of two, the second is worth 2 ^ 31
in_goldilocks : goldilocks.number (packed baby_bear goldilocks 31 (map baby_bear.of (1 ∷ 2 ∷ []))) ≡ 4294967297
in_goldilocks = refl

-- the digits of 787459, which is 11 + 237 * 257 + 11 * 257 ^ 2, and of 4
abbrev digit : ℕ → ℕ → ℕ
digit n place = f257.number (digit_of f257 baby_bear (baby_bear.of n) place)

digits : (digit 787459 0 ≡ 11) × (digit 787459 1 ≡ 237) × (digit 787459 2 ≡ 11) × (digit 787459 3 ≡ 0)
digits = (refl, refl, refl, refl)

digits-small : (digit 4 0 ≡ 4) × (digit 4 1 ≡ 0)
digits-small = (refl, refl)
