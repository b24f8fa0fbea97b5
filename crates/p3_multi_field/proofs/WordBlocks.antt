-- Words of a digest that are absorbed a block at a time.
use Rattle.std.proofs.{Common.{◌≡◌, ℕ, zero, suc, ◌<◌, ◌≤◌, List, [], ◌∷◌, length, take, drop, refl, ap}, Common.arith}
use Rattle.std.proofs.lemmas.List.{length-drop}
use Rattle.p3_sponge.specs.SpongeCalls.{permutation_input, permuting}
use Rattle.p3_multi_field.specs.MultiFieldCalls.{FieldPair, scalars_rule, blocks_within, blocks, absorbed_pending}

-- where something is pending it is absorbed
pub absorbed-some : {F PF : Type 0} (pair : FieldPair F PF) (permute : List PF → List PF) (rate : ℕ) (cells : List PF)
    (pending : List F) → 0 < length pending
    → (let rule = scalars_rule pair permute rate in permuting rule (permutation_input rule cells pending))
    ≡ absorbed_pending pair permute rate cells pending
absorbed-some pair permute rate cells [] some = absurd (omega (arith, some))
absorbed-some pair permute rate cells (x ∷ xs) some = refl

module _ {T : Type 0} (size : ℕ) (positive : 0 < size) where
  fewer : (x : T) (xs : List T) (n : ℕ) → length (x ∷ xs) ≤ suc n → length (drop size (x ∷ xs)) ≤ n
  fewer x xs n enough =
      let left = length-drop size (x ∷ xs) in omega (arith, left, positive, enough)

  -- blocks are the same, however many are allowed, if these are enough
  blocks-enough : (n m : ℕ) (xs : List T) → length xs ≤ n → length xs ≤ m
      → blocks_within size n xs ≡ blocks_within size m xs
  blocks-enough zero zero xs a b = refl
  blocks-enough zero (suc m) [] a b = refl
  blocks-enough zero (suc m) (x ∷ xs) a b = absurd (omega (arith, a))
  blocks-enough (suc n) zero [] a b = refl
  blocks-enough (suc n) zero (x ∷ xs) a b = absurd (omega (arith, b))
  blocks-enough (suc n) (suc m) [] a b = refl
  blocks-enough (suc n) (suc m) (x ∷ xs) a b =
      ap (λ others. take size (x ∷ xs) ∷ others)
      (blocks-enough n m (drop size (x ∷ xs)) (fewer x xs n a) (fewer x xs m b))

  -- the first block, and those of what is left
  pub blocks-cons : (x : T) (xs : List T)
      → blocks size (x ∷ xs) ≡ take size (x ∷ xs) ∷ blocks size (drop size (x ∷ xs))
  blocks-cons x xs =
      let rest = drop size (x ∷ xs) in
      let all : length (x ∷ xs) ≤ suc (length xs) = omega arith in
      let left : length rest ≤ length xs = fewer x xs (length xs) all in
      let here : length rest ≤ length rest = omega arith in
      ap (λ others. take size (x ∷ xs) ∷ others) (blocks-enough (length xs) (length rest) rest left here)

  pub blocks-some : (xs : List T) → 0 < length xs → blocks size xs ≡ take size xs ∷ blocks size (drop size xs)
  blocks-some [] some = absurd (omega (arith, some))
  blocks-some (x ∷ xs) some = blocks-cons x xs
