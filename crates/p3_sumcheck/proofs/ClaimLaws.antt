-- True rounds bring the table's sum to its value at the point, and a false claim takes a lucky round.
use Rattle.std.proofs.Common.{◌≡◌, ℕ, suc, ◌/◌, ◌^◌, ◌⊎◌, inl, inr, refl, sym, ap, ◌∙◌, arith, List, [], ◌∷◌, ◌++◌}
use Rattle.std.proofs.{Common.{length, length-take-le, length-drop}, Math.Nat.pow-suc, lemmas.Bool.cases_order}
use Rattle.p3_challenger.specs.Rounds.{AreRounds}
use Rattle.p3_field.specs.{Residues.{Residues, IsResidues, sum_of}, ResidueLaws.number-injective}
use Rattle.p3_sumcheck.{proofs.Folding.{total-folded, folded-half}, specs.declared.round.Round.Round}
use Rattle.p3_sumcheck.specs.{Tables.{high_half, folded_at, low_half, folded, total}, Sumchecks.challenges_of}
use Rattle.p3_sumcheck.specs.Claims.{HasLuckyRound, claim_after, true_rounds, true_round, Reduces}
use Rattle.p3_sumcheck.proofs.TableSums.{total-halves, total-one}

-- ---- sizes

-- the halves of a table of 2^(n + 1) values are alike
halves-alike : {F : Type 0} (n : ℕ) (table : List F) → length table ≡ 2 ^ suc n →
    length (high_half table) ≡ length (low_half table)
halves-alike n table is =
    let low = length-take-le (length table / 2) table (omega arith) in
    omega (arith, is, pow-suc 2 n, low, length-drop (length table / 2) table)

pub folded-length : {F : Type 0} (r : Residues F) (x : F) (n : ℕ) (table : List F) → length table ≡ 2 ^ suc n →
    length (folded r x table) ≡ 2 ^ n
folded-length r x n table is = omega (arith, is, pow-suc 2 n, folded-half r x table)

-- ---- one more round

pub true_rounds-more : {F : Type 0} (r : Residues F) (table point : List F) (x : F) →
    true_rounds r table (point ++ (x ∷ []))
    ≡ true_rounds r table point ++ (true_round r (folded_at r point table) x ∷ [])
true_rounds-more r table [] x = refl
true_rounds-more r table (y ∷ point) x =
    ap (λ rounds. true_round r table y ∷ rounds) (true_rounds-more r (folded r y table) point x)

pub folded_at-more : {F : Type 0} (r : Residues F) (table point : List F) (x : F) →
    folded_at r (point ++ (x ∷ [])) table ≡ folded r x (folded_at r point table)
folded_at-more r table [] x = refl
folded_at-more r table (y ∷ point) x = folded_at-more r (folded r y table) point x

-- the rounds of a table have its challenges, and as many
pub true_rounds-challenges : {F : Type 0} (r : Residues F) (table point : List F) →
    challenges_of (true_rounds r table point) ≡ point
true_rounds-challenges r table [] = refl
true_rounds-challenges r table (x ∷ point) = ap (λ xs. x ∷ xs) (true_rounds-challenges r (folded r x table) point)

pub true_rounds-length : {F : Type 0} (r : Residues F) (table point : List F) →
    length (true_rounds r table point) ≡ length point
true_rounds-length r table [] = refl
true_rounds-length r table (x ∷ point) = ap suc (true_rounds-length r (folded r x table) point)

-- ---- true rounds, and false claims

module _ {F : Type 0} (r : Residues F) (laws : IsResidues r) where
  -- what a true round leaves is the sum of the folded table
  next-true : (n : ℕ) (table : List F) (x : F) → length table ≡ 2 ^ suc n →
      claim_after r (true_round r table x) ≡ total r (folded r x table)
  next-true n table x is = sym (total-folded r laws x (low_half table) (high_half table) (halves-alike n table is))

  -- true rounds bring the sum of the table to its value at the point
  pub true-reduces : (table point : List F) (last : F) → length table ≡ 2 ^ length point →
      folded_at r point table ≡ last ∷ [] → AreRounds (Reduces r) (total r table) (true_rounds r table point) last
  true-reduces table [] last is ends = sym (ap (total r) ends ∙ total-one r laws last)
  true-reduces table (x ∷ point) last is ends = (
    total r (folded r x table),
    (total-halves r laws table, sym (next-true (length point) table x is)),
    true-reduces (folded r x table) point last (folded-length r x (length point) table is) ends,
  )

  either-element : (x y : F) → (x ≡ y) ⊎ (x ≡ y → ⊥)
  either-element x y = elim (cases_order (r.number x) (r.number y)) [
    | inl same ↦ inl (number-injective r laws x y same)
    | inr (inl less) ↦ inr (λ same. absurd (omega (arith, less, ap r.number same)))
    | inr (inr more) ↦ inr (λ same. absurd (omega (arith, more, ap r.number same)))
  ]

  -- a claim that is not the sum of the table, and that rounds bring to the table's value at their point, takes a lucky
  -- round
  pub false-is_lucky : (table : List F) (rounds : List (Round F)) (claim last : F) → length table ≡ 2 ^ length rounds →
      folded_at r (challenges_of rounds) table ≡ last ∷ [] → AreRounds (Reduces r) claim rounds last →
      (claim ≡ total r table → ⊥) → HasLuckyRound r table rounds
  false-is_lucky table [] claim last is ends reduces differs =
      absurd (differs (sym reduces ∙ sym (ap (total r) ends ∙ total-one r laws last)))
  false-is_lucky table (round ∷ rounds) claim last is ends reduces differs =
      let next = next-true (length rounds) table round.challenge is in
      elim (either-element reduces.0 (total r (folded r round.challenge table))) [
        | inl same ↦
            inl (
              λ truth. differs (sym reduces.1.0 ∙ ap (λ (it : Round F). sum_of r it.first it.second) truth
                  ∙ total-halves r laws table),
              sym reduces.1.1 ∙ same ∙ sym next,
            )
        | inr other ↦
            inr (false-is_lucky (folded r round.challenge table) rounds reduces.0 last
            (folded-length r round.challenge (length rounds) table is) ends reduces.2 other)
      ]
