-- How many numbers below a bound leave a remainder.
use Rattle.std.proofs.{lemmas.Nat.{div-add-mod', div-mul-add, mod-mul-add}, Math.Nat.{mod-lt, zero-mod, zero-div}}
use Rattle.std.proofs.{lemmas.Bool.cases_lt, Common.{◌≡◌, ◌≢◌, ℕ, zero, suc, ◌<◌, ◌≤◌, ◌+◌, ◌*◌, ◌/◌, ◌%◌, [], ◌∷◌}}
use Rattle.std.proofs.Common.{◌++◌, Bool, true, false, cond, nat_eq, ◌⊎◌, inl, inr, refl, sym, ap, ◌∙◌, subst, arith}
use Rattle.std.{proofs.lemmas.{Bool.Decides.nat_tests, List.Sums.sum_by_push}, specs.List.{count_by, range_with_len}}

-- one more number in the range
range-last : (from count : ℕ) → range_with_len from (suc count) ≡ range_with_len from count ++ (from + count) ∷ []
range-last from zero = let here : from ≡ from + 0 = omega arith in ap (λ n. n ∷ []) here
range-last from (suc count) =
    let end : from + 1 + count ≡ from + suc count = omega arith in
    ap (λ ns. from ∷ ns) (range-last (from + 1) count)
    ∙ ap (λ n. from ∷ (range_with_len (from + 1) count ++ n ∷ [])) end

-- how many of the numbers so far leave the value, where the next one leaves r
abbrev Counted : ℕ → ℕ → ℕ → ℕ → Type 0
Counted value quotient r count = ((value < r) × (count ≡ quotient + 1)) ⊎ ((r ≤ value) × (count ≡ quotient))

-- the next number leaves one more, or it leaves 0
abbrev Next : ℕ → ℕ → ℕ → ℕ → ℕ → Type 0
Next m quotient r quotient' r' =
    ((r' ≡ suc r) × (quotient' ≡ quotient)) ⊎ ((suc r ≡ m) × (r' ≡ 0) × (quotient' ≡ quotient + 1))

-- the number is counted if it leaves the value
abbrev Tested : ℕ → ℕ → ℕ → ℕ → Type 0
Tested value r count count' = ((r ≡ value) × (count' ≡ count + 1)) ⊎ ((r ≢ value) × (count' ≡ count))

counted-next : (m value q r q' r' count count' : ℕ) → value < m → Next m q r q' r' → Tested value r count count'
    → Counted value q r count → Counted value q' r' count'
counted-next m value q r q' r' count count' small (inl more) (inl hit) (inl past) = absurd (omega (arith, hit, past))
counted-next m value q r q' r' count count' small (inl more) (inl hit) (inr before) =
    inl (omega (arith, more, hit), omega (arith, more, hit, before))
counted-next m value q r q' r' count count' small (inl more) (inr miss) (inl past) =
    inl (omega (arith, more, past), omega (arith, more, miss.1, past))
counted-next m value q r q' r' count count' small (inl more) (inr miss) (inr before) =
    inr (omega (arith, more, miss.0, before), omega (arith, more, miss.1, before))
counted-next m value q r q' r' count count' small (inr anew) (inl hit) (inl past) =
    absurd (omega (arith, hit, past))
counted-next m value q r q' r' count count' small (inr anew) (inl hit) (inr before) =
    inr (omega (arith, anew), omega (arith, anew, hit, before))
counted-next m value q r q' r' count count' small (inr anew) (inr miss) (inl past) =
    inr (omega (arith, anew), omega (arith, anew, miss.1, past))
counted-next m value q r q' r' count count' small (inr anew) (inr miss) (inr before) =
    absurd (omega (arith, anew, miss.0, before, small))

module _ (m value : ℕ) (small : value < m) where
  abbrev leaves : ℕ → Bool
  leaves n = nat_eq (n % m) value

  abbrev counted : ℕ → ℕ
  counted bound = count_by leaves (range_with_len 0 bound)

  quotient-next : (n : ℕ) → Next m (n / m) (n % m) (suc n / m) (suc n % m)
  quotient-next n =
      let q = n / m in
      let r = n % m in
      let positive : 0 < m = omega (arith, small) in
      let below : r < m = mod-lt n positive in
      let whole : q * m + r ≡ n = div-add-mod' n m in
      elim (cases_lt (suc r) m) [
        | inl inside ↦
            let is : suc n ≡ q * m + suc r = omega (arith, whole) in
            inl (
              ap (λ k. k % m) is ∙ mod-mul-add q m (suc r) inside,
              ap (λ k. k / m) is ∙ div-mul-add q m (suc r) inside,
            )
        | inr end ↦
            let full : suc r ≡ m = omega (arith, end, below) in
            let is : suc n ≡ (q + 1) * m + 0 = omega (arith, whole, full) in
            inr (
              full,
              ap (λ k. k % m) is ∙ mod-mul-add (q + 1) m 0 positive,
              ap (λ k. k / m) is ∙ div-mul-add (q + 1) m 0 positive,
            )
      ]

  tested-by : (n : ℕ) (b : Bool) → leaves n ≡ b → Tested value (n % m) (counted n) (counted n + cond b 1 0)
  tested-by n true e = inl (grind (arith, nat_tests), refl)
  tested-by n false e = inr (grind (arith, nat_tests), omega arith)

  tested : (n : ℕ) → Tested value (n % m) (counted n) (counted (suc n))
  tested n =
      let end : 0 + n ≡ n = omega arith in
      let more : counted (suc n) ≡ counted n + cond (leaves n) 1 0 =
      ap (count_by leaves) (range-last 0 n ∙ ap (λ k. range_with_len 0 n ++ k ∷ []) end)
      ∙ sum_by_push (λ k. cond (leaves k) 1 0) (range_with_len 0 n) n in
      subst (λ (c : ℕ). Tested value (n % m) (counted n) c) (sym more) (tested-by n (leaves n) (λ _. leaves n))

  counted-is : (n : ℕ) → Counted value (n / m) (n % m) (counted n)
  counted-is zero = inr (omega (arith, zero-mod m), sym (zero-div m))
  counted-is (suc n) =
      counted-next m value (n / m) (n % m) (suc n / m) (suc n % m) (counted n) (counted (suc n)) small
      (quotient-next n) (tested n) (counted-is n)

  -- below a multiple of the modulus each remainder occurs equally often
  pub counted-whole : (n : ℕ) → n % m ≡ 0 → counted n ≡ n / m
  counted-whole n whole = elim (counted-is n) [
    | inl past ↦ absurd (omega (arith, past.0, whole))
    | inr before ↦ before.1
  ]
