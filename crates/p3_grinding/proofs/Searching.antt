-- A search that tries the numbers in order.
use Rattle.std.proofs.Common.{◌≡◌, ℕ, ◌+◌, ◌<◌, ◌≤◌, Bool, true, false, Some, None, refl, sym, ap, ◌∙◌, inr}
use Rattle.std.proofs.{Common.{subst, arith, rules}, Math.Nat.mod-le}
use borrow.Author.Count.{below_more}
use Rattle.p3_field_core.specs.Residues.{Residues, IsResidues}
use Rattle.p3_challenger_core.specs.{Sampling.{Sampling, RefusesDraw}, declared.error.ChallengerError.ChallengerError}
use Rattle.p3_challenger_core.specs.declared.error.ChallengerError.TheVariants.{OutOfMemory, DrawLimit}
use Rattle.p3_grinding.specs.Checks.{Passes, PassesAt, IsLeast, NonePasses, MayRunOut, RefusesSearch}
use Rattle.p3_grinding.specs.CheckLaws.{LimitGivesNone}

-- the challenger and the copy are as at the start, and no number below n passes
pub record Searched {S W : Type 0} (r : Residues W) (check : W → Sampling S Bool) (start challenger trial : S) (n : ℕ)
    : Type 0 where
  pub kept : challenger ≡ start
  pub ready : trial ≡ start
  pub none : (k : ℕ) → k < n → ¬ (Passes r check start k)

-- the copy is as at the start, and no candidate below n passes
pub record Tried {S : Type 0} (check : ℕ → Sampling S Bool) (start trial : S) (n : ℕ) : Type 0 where
  pub ready : trial ≡ start
  pub none : (k : ℕ) → k < n → ¬ (PassesAt check start k)

false_not_true : Some false ≡ Some true → ⊥
false_not_true e = search (rules, e)

pub none_not_some : None ≡ Some true → ⊥
none_not_some e = search (rules, e)

pub nothing_below : (k : ℕ) → k < 0 → ⊥
nothing_below k h = omega arith

pub below_least : (k : ℕ) {m n : ℕ} → k < m → m ≤ n → k < n
below_least k h at_most = omega arith

module _ {S W : Type 0} (r : Residues W) (check : W → Sampling S Bool) (start : S) where
  pub searched-start : (challenger trial : S) → challenger ≡ start → trial ≡ start
      → Searched r check start challenger trial 0
  searched-start challenger trial kept ready =
      record { kept = kept; ready = ready; none = λ k h _. absurd (nothing_below k h) }

  module _ (challenger trial : S) (n : ℕ) (so_far : Searched r check start challenger trial n) where
    -- the number n does not pass, and the copy is set back
    next : (there : S) → there ≡ challenger → ¬ (Passes r check start n)
        → Searched r check start challenger there (n + 1)
    next there back fails =
        record {
          kept = so_far.kept;
          ready = back ∙ so_far.kept;
          none = below_more (λ k. ¬ (Passes r check start k)) n so_far.none fails;
        }

    at_start : (check (r.of n)).sampled trial ≡ (check (r.of n)).sampled start
    at_start = ap (check (r.of n)).sampled so_far.ready

    pub searched-failed : (there : S) → there ≡ challenger → (check (r.of n)).sampled trial ≡ Some false
        → Searched r check start challenger there (n + 1)
    searched-failed there back is = next there back (λ passes. false_not_true (sym is ∙ at_start ∙ passes))

    pub searched-limit : (there after : S) → there ≡ challenger → LimitGivesNone (check (r.of n))
        → RefusesDraw (check (r.of n)) DrawLimit trial after → Searched r check start challenger there (n + 1)
    searched-limit there after back law h =
        next there back (λ passes. none_not_some (sym (law trial h.0) ∙ at_start ∙ passes))

    -- the number n passes
    pub searched-found : IsResidues r → (check (r.of n)).sampled trial ≡ Some true → IsLeast r check start (r.of n)
    searched-found laws is =
        record {
          passes = sym at_start ∙ is;
          least = λ k h. so_far.none k (below_least k (subst (λ m. k < m) (laws.number_of n) h) (mod-le n r.order));
        }

    pub searched-after : (there : S) → there ≡ (check (r.of n)).after trial → there ≡ (check (r.of n)).after start
    searched-after there is = is ∙ ap (check (r.of n)).after so_far.ready

    -- its check is refused for memory
    pub searched-refused : (copies_may_fail : Type 0) (e : ChallengerError) (after : S) → (e ≡ DrawLimit → ⊥)
        → RefusesDraw (check (r.of n)) e trial after
        → RefusesSearch r (MayRunOut copies_may_fail check) check e start challenger
    searched-refused copies_may_fail OutOfMemory after other h =
        (inr (r.of n, after, subst (λ s. (check (r.of n)).may_leave s after) so_far.ready h), so_far.kept)
    searched-refused copies_may_fail DrawLimit after other h = absurd (other refl)
    searched-refused copies_may_fail e after other h = absurd h

    -- all of them were tried
    pub searched-none : r.order ≤ n → NonePasses r check start × (challenger ≡ start)
    searched-none all = (λ k h. so_far.none k (below_least k h all), so_far.kept)

module _ {S : Type 0} (check : ℕ → Sampling S Bool) (start trial : S) (n : ℕ) (so_far : Tried check start trial n) where
  -- candidate n does not pass, and the copy is set back
  pub tried-next : (there : S) → there ≡ start → ¬ (PassesAt check start n) → Tried check start there (n + 1)
  tried-next there back fails =
      record { ready = back; none = below_more (λ k. ¬ (PassesAt check start k)) n so_far.none fails }

  pub tried-failed : (there : S) → there ≡ start → (check n).sampled trial ≡ Some false
      → Tried check start there (n + 1)
  tried-failed there back is =
      tried-next there back (λ passes. false_not_true (sym is ∙ ap (check n).sampled so_far.ready ∙ passes))

  pub tried-limit : (there after : S) → there ≡ start → LimitGivesNone (check n)
      → RefusesDraw (check n) DrawLimit trial after → Tried check start there (n + 1)
  tried-limit there after back law h =
      tried-next there back (λ passes. none_not_some (sym (law trial h.0) ∙ ap (check n).sampled so_far.ready ∙ passes))
