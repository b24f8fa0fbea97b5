-- A sum determines the count below the order that was added to an element.
use Rattle.std.proofs.Common.{◌≡◌, ℕ, ◌<◌, ◌≤◌, ◌+◌, ◌-◌, ◌%◌, ◌⊎◌, inl, inr, sym, ap, ◌∙◌, add-zero, arith}
use Rattle.std.proofs.{Math.Nat.{add-mod_left, mod-eq_of_lt}, lemmas.Bool.cases_lt, lemmas.Bool.Decides.eqb_tells}
use Rattle.p3_field_core.specs.{Residues.{Residues, IsResidues, plus}, ResidueLaws.{number_of-below, number-injective}}
use Rattle.p3_read_back.specs.Queries.{Decides}

-- the remainder of a number below two moduli
below_two : (x m : ℕ) → x < m + m → ((x % m ≡ x) × (x < m)) ⊎ ((x % m ≡ x - m) × (m ≤ x))
below_two x m h =
    elim (cases_lt x m) as (λ _. ((x % m ≡ x) × (x < m)) ⊎ ((x % m ≡ x - m) × (m ≤ x))) [
      | inl below ↦ inl (mod-eq_of_lt below, below)
      | inr over ↦
          let sum : x ≡ m + (x - m) = omega arith in
          let rest : x - m < m = omega arith in
          let there : x % m ≡ x - m = ap (λ k. k % m) sum ∙ add-mod_left m (x - m) ∙ mod-eq_of_lt rest in
          inr (there, over)
    ]

-- if two sums have one remainder, the one number is the other plus the difference of the summands
difference-told : (a b i j m : ℕ) → a < m → b < m → i < m → j ≤ i → (a + i) % m ≡ (b + j) % m → (a + (i - j)) % m ≡ b
difference-told a b i j m a_below b_below i_below less same =
    elim (below_two (a + i) m (omega arith)) as (λ _. (a + (i - j)) % m ≡ b) [
      | inl (first, first_below) ↦
          elim (below_two (b + j) m (omega arith)) as (λ _. (a + (i - j)) % m ≡ b) [
            | inl (second, second_below) ↦
                let sum : a + (i - j) ≡ b = omega arith in ap (λ k. k % m) sum ∙ mod-eq_of_lt b_below
            | inr (second, second_over) ↦ absurd (omega arith)
          ]
      | inr (first, first_over) ↦
          elim (below_two (b + j) m (omega arith)) as (λ _. (a + (i - j)) % m ≡ b) [
            | inl (second, second_below) ↦
                let sum : a + (i - j) ≡ m + b = omega arith in
                ap (λ k. k % m) sum ∙ add-mod_left m b ∙ mod-eq_of_lt b_below
            | inr (second, second_over) ↦
                let sum : a + (i - j) ≡ b = omega arith in ap (λ k. k % m) sum ∙ mod-eq_of_lt b_below
          ]
    ]

-- the sum determines the summand
added-told : (a i j m : ℕ) → a < m → i < m → j ≤ i → (a + i) % m ≡ (a + j) % m → i ≡ j
added-told a i j m a_below i_below less same =
    let back : (a + (i - j)) % m ≡ a = difference-told a a i j m a_below a_below i_below less same in
    elim (below_two (a + (i - j)) m (omega arith)) as (λ _. i ≡ j) [
      | inl (sum, sum_below) ↦ omega (arith, back)
      | inr (sum, sum_over) ↦ absurd (omega (arith, back))
    ]

module _ {F : Type 0} (r : Residues F) (laws : IsResidues r) where
  -- equality of two elements can be decided by their numbers
  pub element-decides : Decides F
  element-decides x y =
      elim (eqb_tells (r.number x) (r.number y)) [
        | inl (equal, same) ↦ inl (number-injective r laws x y same)
        | inr (unequal, differ) ↦ inr (λ e. differ (ap r.number e))
      ]

  pub plus-number : (x : F) (n : ℕ) → n < r.order → r.number (plus r x n) ≡ (r.number x + n) % r.order
  plus-number x n below =
      laws.number_of (r.number x + r.number (r.of n))
      ∙ ap (λ k. (r.number x + k) % r.order) (number_of-below r laws n below)

  -- adding 0 changes nothing
  pub plus-zero : (x : F) → 0 < r.order → plus r x 0 ≡ x
  plus-zero x some =
      ap (λ k. r.of (r.number x + k)) (number_of-below r laws 0 some)
      ∙ ap r.of (add-zero (r.number x)) ∙ laws.of_number x

  -- the sums determine the counts that were added to one element
  pub counts-told : (x : F) (i j : ℕ) → i < r.order → j < r.order → plus r x i ≡ plus r x j → i ≡ j
  counts-told x i j i_below j_below e =
      let same : (r.number x + i) % r.order ≡ (r.number x + j) % r.order =
      sym (plus-number x i i_below) ∙ ap r.number e ∙ plus-number x j j_below in
      elim (cases_lt i j) [
        | inl less ↦ sym (added-told (r.number x) j i r.order (laws.below x) j_below (omega (arith, less)) (sym same))
        | inr over ↦ added-told (r.number x) i j r.order (laws.below x) i_below over same
      ]

  -- if two sums are equal, the one element is the other plus the difference of the counts
  pub difference-of_sums : (x y : F) (i j : ℕ) → i < r.order → j ≤ i → plus r x i ≡ plus r y j → plus r x (i - j) ≡ y
  difference-of_sums x y i j i_below less e =
      let j_below : j < r.order = omega (arith, i_below, less) in
      let fewer : i - j < r.order = omega (arith, i_below) in
      let same : (r.number x + i) % r.order ≡ (r.number y + j) % r.order =
      sym (plus-number x i i_below) ∙ ap r.number e ∙ plus-number y j j_below in
      let found : (r.number x + (i - j)) % r.order ≡ r.number y =
      difference-told (r.number x) (r.number y) i j r.order (laws.below x) (laws.below y) i_below less same in
      number-injective r laws (plus r x (i - j)) y (plus-number x (i - j) fewer ∙ found)
