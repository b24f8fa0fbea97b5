-- The value of a candidate's cell, which packs the scalars before the candidate and the candidate. The least candidate that
-- passes.
use Rattle.std.proofs.Common.{◌≡◌, ℕ, suc, ◌<◌, ◌≤◌, ◌+◌, ◌*◌, ◌%◌, ◌^◌, List, [], ◌∷◌, ◌++◌, length, take, map, ap, ap₂, ◌∙◌}
use Rattle.std.proofs.Common.{Option, Some, None, MatchOption, slice_set, inl, inr, sym, subst}
use Rattle.std.proofs.{Common.arith, lemmas.List.{map-append, length-map}, Math.{Pow.pow-lt, Nat.mod-eq_of_lt}}
use Rattle.std.proofs.lemmas.{Bool.cases_lt, List.length-take-le}
use Rattle.p3_field_core.specs.Residues.{Residues, IsResidues, sum_of, power_of}
use Rattle.p3_field_core.specs.{ResidueLaws.number_of-below, RingLaws.residues-ring}
use Rattle.p3_field_bridge.specs.{Digits.{digit_sum, number_in}, Bridges.{packed, AreRadixBits}}
use Rattle.p3_multi_field.specs.MultiFieldCalls.{FieldPair}
use Rattle.p3_multi_field.specs.PreparedChecks.{PreparedChecks, Accepts, IsLeastAccepted, NoneAccepted, with_candidate}

-- the numbers below an order of 32 bits take fewer than 64
pub few_bits : (order bits : ℕ) → AreRadixBits order bits → order < 2 ^ 32 → bits < 64
few_bits order bits radix small = let enough : order ≤ 2 ^ 32 = omega (arith, small) in omega (arith, radix.least 32 enough)

-- a digit above others
digit_sum-above : (base place : ℕ) (digits : List ℕ) (digit : ℕ)
    → digit_sum base place (digits ++ digit ∷ []) ≡ digit_sum base place digits + digit * base ^ (place + length digits)
digit_sum-above base place [] digit =
    let here : place ≡ place + 0 = omega arith in
    let same : digit * base ^ place ≡ digit * base ^ (place + 0) = ap (λ k. digit * base ^ k) here in
    omega (arith, same)
digit_sum-above base place (first ∷ digits) digit =
    let next : suc place + length digits ≡ place + suc (length digits) = omega arith in
    let above = digit * base ^ (place + suc (length digits)) in
    let others : digit_sum base (suc place) (digits ++ digit ∷ []) ≡ digit_sum base (suc place) digits + above =
    digit_sum-above base (suc place) digits digit
    ∙ ap (λ k. digit_sum base (suc place) digits + digit * base ^ k) next in
    omega (arith, others)

module _ {F PF : Type 0} (inner : Residues F) (outer : Residues PF) (bits : ℕ) (before : List F) where
  -- the number that the scalars before the candidate pack
  abbrev so_far : ℕ
  so_far = number_in (2 ^ bits) (map inner.number before)

  -- the weight of the candidate's digit
  abbrev pub weight : ℕ
  weight = (2 ^ bits) ^ length before

  -- the value, given the number of the candidate
  abbrev pub value_of : ℕ → PF
  value_of n = outer.of (so_far + n * weight)

  pub value-first : packed inner outer bits before ≡ value_of 0
  value-first = let none : so_far ≡ so_far + 0 * weight = omega arith in ap outer.of none

  pub value-next : IsResidues outer → (n : ℕ) → sum_of outer (value_of n) (outer.of weight) ≡ value_of (n + 1)
  value-next laws n =
      let more : so_far + n * weight + weight ≡ so_far + (n + 1) * weight = omega arith in
      (residues-ring outer laws).sum_of_numbers (so_far + n * weight) weight ∙ ap outer.of more

  pub value-packs : IsResidues inner → (n : ℕ) → n < inner.order
      → packed inner outer bits (before ++ inner.of n ∷ []) ≡ value_of n
  value-packs laws n small =
      let numbers = map inner.number before in
      let last : map inner.number (before ++ inner.of n ∷ []) ≡ numbers ++ n ∷ [] =
      map-append inner.number before (inner.of n ∷ [])
      ∙ ap (λ k. numbers ++ k ∷ []) (number_of-below inner laws n small) in
      let place : 0 + length numbers ≡ length before = omega (arith, length-map before inner.number) in
      ap outer.of
      (ap (number_in (2 ^ bits)) last
      ∙ digit_sum-above (2 ^ bits) 0 numbers n
      ∙ ap (λ k. so_far + n * (2 ^ bits) ^ k) place)

  -- a power of a bit that is shifted, where the scalars before the candidate are the first ones of a list
  pub weight-is : IsResidues outer → bits < 64 → (count : ℕ) (radix : PF) (within : ℕ) (scalars : List F) → count ≡ bits
      → radix ≡ outer.of (1 * 2 ^ count % 18446744073709551616) → take within scalars ≡ before → within ≤ length scalars
      → power_of outer radix within ≡ outer.of weight
  weight-is laws few count radix within scalars is radix_is first room =
      let long : within ≡ length before = sym (length-take-le within scalars room) ∙ ap length first in
      let inside : 2 ^ bits < 2 ^ 64 = pow-lt few in
      let once : 1 * 2 ^ bits ≡ 2 ^ bits = omega arith in
      let shifted : 1 * 2 ^ count % 18446744073709551616 ≡ 2 ^ bits =
      ap (λ k. 1 * 2 ^ k % 18446744073709551616) is
      ∙ ap (λ n. n % 18446744073709551616) once ∙ mod-eq_of_lt inside in
      ap₂ (power_of outer) (radix_is ∙ ap outer.of shifted) long
      ∙ (residues-ring outer laws).power_of_number (2 ^ bits) (length before)

module _ {F PF P : Type 0} (pair : FieldPair F PF) (permute : P → List PF → List PF) (rate : ℕ) (s : PreparedChecks F PF P)
    (bits : ℕ) where
  -- the cells with the candidate of a number
  abbrev pub cells_of : ℕ → List PF
  cells_of n = slice_set s.cells s.place (value_of pair.inner pair.outer pair.bits s.before n)

  pub cells_of-candidate : IsResidues pair.inner → (n : ℕ) (cells : List PF) → cells ≡ cells_of n → n < pair.inner.order
      → cells ≡ with_candidate pair permute rate s (pair.inner.of n)
  cells_of-candidate laws n cells is small =
      is ∙ ap (slice_set s.cells s.place) (sym (value-packs pair.inner pair.outer pair.bits s.before laws n small))

  -- no candidate whose number is below this one passes
  abbrev pub NoneBelow : ℕ → Type 0
  NoneBelow m = (n : ℕ) → n < m → n < pair.inner.order → ¬ (Accepts pair permute rate s bits (pair.inner.of n))

  -- where the candidate of the next number does not pass either
  pub none_below-next : (m : ℕ) → NoneBelow m
      → (m < pair.inner.order → ¬ (Accepts pair permute rate s bits (pair.inner.of m))) → NoneBelow (m + 1)
  none_below-next m before here n lt small p = elim (cases_lt n m) [
    | inl earlier ↦ before n earlier small p
    | inr other ↦
        let is : n ≡ m = omega (arith, lt, other) in
        here (omega (arith, small, is)) (subst (λ k. Accepts pair permute rate s bits (pair.inner.of k)) is p)
  ]

  -- where it passes: it is the least one that does, and past the last candidate none does
  pub first-after : IsResidues pair.inner → (m : ℕ) (found : Option F) → NoneBelow m
      → (m < pair.inner.order → Accepts pair permute rate s bits (pair.inner.of m))
      → (m < pair.inner.order → found ≡ Some (pair.inner.of m)) → (pair.inner.order ≤ m → found ≡ None)
      → MatchOption found (NoneAccepted pair permute rate s bits) (IsLeastAccepted pair permute rate s bits)
  first-after laws m found before passes some none =
      let None_passes = NoneAccepted pair permute rate s bits in
      let Found = λ (o : Option F). MatchOption o None_passes (IsLeastAccepted pair permute rate s bits) in
      elim (cases_lt m pair.inner.order) [
        | inl small ↦
            let number : pair.inner.number (pair.inner.of m) ≡ m = number_of-below pair.inner laws m small in
            let least : IsLeastAccepted pair permute rate s bits (pair.inner.of m) = record {
              passes = passes small;
              least = λ n lt. before n (omega (arith, lt, number)) (omega (arith, lt, number, small));
            } in
            subst Found (sym (some small)) least
        | inr past ↦
            let none_passes : None_passes = λ n lt. before n (omega (arith, lt, past)) lt in
            subst Found (sym (none (omega (arith, past)))) none_passes
      ]
