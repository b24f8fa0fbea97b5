-- A round more of a commit phase, and an index more.
use Rattle.std.proofs.Common.{◌≡◌, ℕ, ◌+◌, ◌<◌, ◌==◌, Bool, true, false, List, [], ◌∷◌, ◌++◌, Some, refl}
use Rattle.std.proofs.Common.{sym, ap, subst, ◌∙◌, length, take, get_or, if◌then◌else◌, ◌||◌}
use Rattle.std.specs.List.{AllByRecursion, IsDistinct, list_any}
use Rattle.p3_challenger.specs.{RoundLaws.{rounds-more, rounds-taken}, Sampling.Sampling}
use Rattle.uses.specs.CommitPhase.{AreDrawnInTurn, AreNumbersDrawn, DrawsAndKeeps, ObservesAndDraws, kept_with}

-- a round more: of the caps one is observed, and one more challenge is drawn
pub round-more : {S T X Y : Type 0} (observed : S → T → S) (d : Sampling S X) (parts : Y → X) (xs : List T) (i : ℕ)
    (x : T) → i < length xs → x ≡ get_or xs i x → (ys more : List Y) (y : Y) (s t u v : S) →
    AreDrawnInTurn observed d parts (take i xs) ys s t → u ≡ observed t x → d.sampled u ≡ Some (parts y) →
    v ≡ d.after u → more ≡ ys ++ (y ∷ []) → AreDrawnInTurn observed d parts (take (i + 1) xs) more s v
round-more observed d parts xs i x below is ys more y s t u v so_far seen gives left added =
    rounds-taken (ObservesAndDraws observed d parts) (s, []) xs i (t, ys) x (v, more) below is so_far
    (y, ap d.sampled (sym seen) ∙ gives, added, left ∙ ap d.after seen)

-- ---- indices

abbrev same : ℕ → ℕ → Bool
same x y = x == y

differs-more : (a x : ℕ) (xs : List ℕ) → AllByRecursion (λ y. same a y ≡ false) xs → same a x ≡ false →
    AllByRecursion (λ y. same a y ≡ false) (xs ++ (x ∷ []))
differs-more a x [] all differs = (differs, tt)
differs-more a x (y ∷ xs) all differs = (all.0, differs-more a x xs all.1 differs)

neither : (p q : Bool) → (p || q) ≡ false → (p ≡ false) × (q ≡ false)
neither true q h = cc
neither false q h = (refl, h)

distinct-more : (xs : List ℕ) (x : ℕ) → IsDistinct same xs → list_any (λ y. same y x) xs ≡ false →
    IsDistinct same (xs ++ (x ∷ []))
unfolding IsDistinct
distinct-more [] x distinct new = (tt, tt)
distinct-more (a ∷ xs) x distinct new =
    let differs = neither (same a x) (list_any (λ y. same y x) xs) new in
    (differs-more a x xs distinct.0 differs.0, distinct-more xs x distinct.1 differs.1)

chosen-distinct : (came : Bool) (xs : List ℕ) (x : ℕ) → IsDistinct same xs → list_any (λ y. same y x) xs ≡ came →
    IsDistinct same (if came then xs else xs ++ (x ∷ []))
chosen-distinct true xs x distinct is = distinct
chosen-distinct false xs x distinct is = distinct-more xs x distinct is

module _ {S : Type 0} (d : Sampling S ℕ) where
  pub kept-none : (s : S) (kept : List ℕ) → kept ≡ [] → IsDistinct same kept × AreNumbersDrawn d kept s s
  unfolding IsDistinct
  kept-none s kept is = (subst (IsDistinct same) (sym is) tt, ([], ap (λ xs. (s, xs)) is))

  pub kept-more : (s here t : S) (kept more : List ℕ) (x : ℕ) → IsDistinct same kept × AreNumbersDrawn d kept s here →
      d.sampled here ≡ Some x → t ≡ d.after here → more ≡ kept_with kept x →
      IsDistinct same more × AreNumbersDrawn d more s t
  kept-more s here t kept more x so_far gives left is = (
    subst (IsDistinct same) (sym is) (chosen-distinct (list_any (λ y. y == x) kept) kept x so_far.0 refl),
    (
      so_far.1.0 ++ (x ∷ []),
      rounds-more (DrawsAndKeeps d) (s, []) so_far.1.0 (here, kept) x (t, more) so_far.1.1 (gives, is, left),
    ),
  )
