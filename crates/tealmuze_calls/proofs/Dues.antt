-- What an error is due to, passed on.
use Rattle.std.proofs.Common.{◌≡◌, inl, inr, subst, sym, refl, Option, Some, None, Result, ok_or}
use Rattle.std.specs.Result.{IfErr, IsErrAnd}
use Rattle.std.proofs.lemmas.Result.{err_from_is_err_and}
use Rattle.tealmuze_calls.specs.Errors.{IsDueTo}
use Rattle.tealmuze_calls.specs.declared.unanswered.Unanswered.{Unanswered}
use Rattle.tealmuze_calls.specs.declared.unanswered.Unanswered.TheVariants.{OutOfMemory}

-- an error whose reason is known
pub due : {T : Type 0} (Q : Unanswered → Type 0) (r : Result T Unanswered) (Reason : Type 0) → IsErrAnd r Q → Reason →
    IfErr r (IsDueTo Reason)
due Q r Reason is reason = let p = err_from_is_err_and r is in rw p.1 (inr reason)

-- what an error is due to, by what another is
pub due_weaker : (Old New : Type 0) (e : Unanswered) → (Old → New) → IsDueTo Old e → IsDueTo New e
due_weaker Old New e f (inl out) = inl out
due_weaker Old New e f (inr reason) = inr (f reason)

-- an error that is passed on
pub due_passed : {T : Type 0} (r : Result T Unanswered) (e : Unanswered) (Old New : Type 0) → (Old → New) →
    IsErrAnd r (λ y. y ≡ e) → IsDueTo Old e → IfErr r (IsDueTo New)
due_passed r e Old New f is told =
    let p = err_from_is_err_and r is in
    let due_to : IsDueTo New p.0 = subst (λ x. IsDueTo New x) (sym p.2) (due_weaker Old New e f told) in rw p.1 due_to

-- an error in place of an option
pub due_or : {T : Type 0} (o : Option T) (e : Unanswered) (r : Result T Unanswered) (Reason : Type 0) → r ≡ ok_or o e →
    (o ≡ None → Reason) → IfErr r (IsDueTo Reason)
due_or None e r Reason is reason = rw is (inr (reason refl))
due_or (Some x) e r Reason is reason = rw is tt

-- what an error is due to that is not that memory ran out
pub reason_of : (Reason : Type 0) (e : Unanswered) → (e ≡ OutOfMemory → ⊥) → IsDueTo Reason e → Reason
reason_of Reason e not (inl out) = absurd (not out)
reason_of Reason e not (inr reason) = reason
