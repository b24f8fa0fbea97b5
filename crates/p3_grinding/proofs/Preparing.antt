-- A check whose first draw was done before: what it answers, and leaves, is what is left of it from there.
use Rattle.std.proofs.Common.{◌≡◌, ℕ, zero, suc, ◌==◌, ◌<◌, ◌⊎◌, Bool, true, false, Option, Some, None, refl, sym, ap}
use Rattle.std.proofs.{Common.{◌∙◌, inl, inr, subst, rules, is_some, option_and_then, IsSome}, Math.Nat.mod-le}
use Rattle.p3_field_core.specs.Residues.{Residues, IsResidues}
use Rattle.p3_challenger_core.specs.{Observation.Observation, Sampling.{Sampling, RefusesDraw}}
use Rattle.p3_challenger_core.specs.declared.error.ChallengerError.{ChallengerError}
use Rattle.p3_challenger_core.specs.declared.error.ChallengerError.TheVariants.{OutOfMemory, DrawLimit, NoWitness}
use Rattle.p3_grinding.specs.Checks.{draws_nothing, checked, check_of, IsLeast, MayRunOut, RefusesReady}
use Rattle.p3_grinding.{specs.Checks.RefusesSearch, proofs.Searching.{none_not_some, nothing_below, below_least}}

not_both : true ≡ false → ⊥
not_both e = search (rules, e)

not_drawn : (x : Unit {0}) → Some x ≡ None → ⊥
not_drawn x e = search (rules, e)

not_zero : (n : ℕ) → (suc n == 0) ≡ true → ⊥
not_zero n e = search (rules, e)

-- with 0 bits the witness of the number 0 passes
module _ {S Symbol W : Type 0} (before : Sampling S (Unit {0})) (o : Observation S Symbol W) (test : Sampling S Bool)
    (r : Residues W) (start : S) where
  pub no_bits-least : IsResidues r → (bits : ℕ) → (bits == 0) ≡ true
      → IsLeast r (check_of before o test bits) start (r.of 0)
  no_bits-least laws zero is =
      record {
        passes = refl;
        least = λ k h _. nothing_below k (below_least k (subst (λ m. k < m) (laws.number_of 0) h) (mod-le 0 r.order));
      }
  no_bits-least laws (suc more) is = absurd (not_zero more is)

  pub no_bits-after : (bits : ℕ) (witness : W) → (bits == 0) ≡ true
      → start ≡ (check_of before o test bits witness).after start
  no_bits-after zero witness is = refl
  no_bits-after (suc more) witness is = absurd (not_zero more is)

  fails_unready : (ready : Option (Unit {0})) (o : Option Bool) → ready ≡ None → option_and_then (λ _. o) ready ≡ None
  fails_unready None o is = refl
  fails_unready (Some x) o is = absurd (not_drawn x is)

  -- no copy is made ready
  pub not_ready-refused : (copies_may_fail : Type 0) (bits : ℕ) (e : ChallengerError) → (bits == 0) ≡ false
      → RefusesReady copies_may_fail before e start
      → RefusesSearch r (MayRunOut copies_may_fail (check_of before o test bits)) (check_of before o test bits) e start
      start
  not_ready-refused copies_may_fail zero e more h = absurd (not_both more)
  not_ready-refused copies_may_fail (suc bits) OutOfMemory more (inl copied) = (inl copied, refl)
  not_ready-refused copies_may_fail (suc bits) OutOfMemory more (inr left) =
      (inr (r.of 0, left.0, inl left.1), refl)
  not_ready-refused copies_may_fail (suc bits) NoWitness more h = (
    λ n below passes. none_not_some (sym (fails_unready (before.sampled start)
        (test.sampled (o.observed (before.after start) (r.of n))) h) ∙ passes),
    refl,
  )
  not_ready-refused copies_may_fail (suc bits) e more h = absurd h

  module _ (ready : S) (drawn : before.sampled start ≡ Some tt) (at : ready ≡ before.after start) where
    same_answer : (witness : W) → (checked before o test witness).sampled start
        ≡ (checked draws_nothing o test witness).sampled ready
    same_answer witness = rw (drawn, at) refl

    same_after : (witness : W) → (checked before o test witness).after start
        ≡ (checked draws_nothing o test witness).after ready
    same_after witness = rw (drawn, at) refl

    is_drawn : IsSome (before.sampled start)
    is_drawn = ap is_some drawn

    may_leave_later : (witness : W) (t : S) → (checked draws_nothing o test witness).may_leave ready t
        → (checked before o test witness).may_leave start t
    may_leave_later witness t (inl never) = absurd never
    may_leave_later witness t (inr later) =
        inr (is_drawn, subst (λ s. o.may_leave s witness t ⊎ test.may_leave (o.observed s witness) t) at later.1)

    pub prepared-answered : (bits : ℕ) (witness : W) (answer : Option Bool) → (bits == 0) ≡ false
        → (checked draws_nothing o test witness).sampled ready ≡ answer
        → (check_of before o test bits witness).sampled start ≡ answer
    prepared-answered zero witness answer more is = absurd (not_both more)
    prepared-answered (suc bits) witness answer more is = same_answer witness ∙ is

    pub prepared-after : (bits : ℕ) (witness : W) (there : S) → (bits == 0) ≡ false
        → there ≡ (checked draws_nothing o test witness).after ready
        → there ≡ (check_of before o test bits witness).after start
    prepared-after zero witness there more is = absurd (not_both more)
    prepared-after (suc bits) witness there more is = is ∙ sym (same_after witness)

    pub prepared-least : (bits : ℕ) (witness : W) → (bits == 0) ≡ false
        → IsLeast r (checked draws_nothing o test) ready witness → IsLeast r (check_of before o test bits) start witness
    prepared-least zero witness more is = absurd (not_both more)
    prepared-least (suc bits) witness more is =
        record {
          passes = same_answer witness ∙ is.passes;
          least = λ k h passes. is.least k h (sym (same_answer (r.of k)) ∙ passes);
        }

    pub prepared-refused : (copies_may_fail : Type 0) (bits : ℕ) (e : ChallengerError) (t : S) → (bits == 0) ≡ false
        → RefusesSearch r (MayRunOut copies_may_fail (checked draws_nothing o test)) (checked draws_nothing o test) e
        ready t
        → RefusesSearch r (MayRunOut copies_may_fail (check_of before o test bits)) (check_of before o test bits) e
        start start
    prepared-refused copies_may_fail zero e t more h = absurd (not_both more)
    prepared-refused copies_may_fail (suc bits) OutOfMemory t more (inl copied, back) = (inl copied, refl)
    prepared-refused copies_may_fail (suc bits) OutOfMemory t more (inr left, back) =
        (inr (left.0, left.1, may_leave_later left.0 left.1 left.2), refl)
    prepared-refused copies_may_fail (suc bits) NoWitness t more h =
        (λ n below passes. h.0 n below (sym (same_answer (r.of n)) ∙ passes), refl)
    prepared-refused copies_may_fail (suc bits) e t more h = absurd h

    -- one check, whose first draw was done
    pub prepared-check_refused : (bits : ℕ) (witness : W) (e : ChallengerError) (t : S) → (bits == 0) ≡ false
        → RefusesDraw (checked draws_nothing o test witness) e ready t
        → RefusesDraw (check_of before o test bits witness) e start t
    prepared-check_refused zero witness e t more h = absurd (not_both more)
    prepared-check_refused (suc bits) witness OutOfMemory t more h = may_leave_later witness t h
    prepared-check_refused (suc bits) witness DrawLimit t more (inl never, is) = absurd never
    prepared-check_refused (suc bits) witness DrawLimit t more (inr later, is) = (
      inr (is_drawn, subst (λ s. test.meets_limit (o.observed s witness)) at later.1),
      is ∙ sym (same_after witness),
    )
    prepared-check_refused (suc bits) witness e t more h = absurd h
