-- What a call answers, by what was found.
use Rattle.std.proofs.Common.{ℕ, ◌≡◌, ◌<◌, List, length, inl, inr, sym, subst, arith, Result, Ok, Err}
use Rattle.std.specs.Result.{IfOk, IfErr}
use Rattle.tealmuze_calls.specs.{Errors.IsDueTo, Forms.IsWritten, Written.{Answers, ByAnswer, IsNoVerdict, IsTold}}
use Rattle.tealmuze_calls.specs.declared.telling.Answer.{Answer}
use Rattle.tealmuze_calls.specs.declared.unanswered.Unanswered.{Unanswered}
use Rattle.tealmuze_calls.specs.declared.unanswered.Unanswered.TheVariants.{OutOfMemory}
use Rattle.tealmuze_calls.specs.declared.telling.Answer.TheVariants as answer

-- no verdict, for what an error is due to
no_verdict : (Asked : Type 0) (e : Unanswered) (told : List ℕ) → IsDueTo (Asked → ⊥) e →
    IsNoVerdict (e ≡ OutOfMemory) told → IsNoVerdict Asked told
no_verdict Asked e told due (inr three) = inr three
no_verdict Asked e told (inl out) (inl says) = absurd (says.1 out)
no_verdict Asked e told (inr none) (inl says) = inl (says.0, none)

pub answered : (found : Result Answer Unanswered) (IsVerdict : List ℕ → Type 0) (Asked : Type 0) (Wants : ℕ → Type 0)
    (before : List ℕ) (returned room : ℕ) (after : List ℕ) → room ≡ length before →
    IfOk found (ByAnswer IsVerdict (λ wanted. Wants wanted × (room < wanted))) → IfErr found (IsDueTo (Asked → ⊥)) →
    IfOk found (ByAnswer (λ bytes. IsWritten bytes before returned after)
    (λ wanted. (returned ≡ wanted) × (after ≡ before))) →
    IfErr found (λ e. IsTold (IsNoVerdict (e ≡ OutOfMemory)) before returned after) →
    Answers IsVerdict Asked Wants before returned after
answered (Ok (answer.Told bytes)) IsVerdict Asked Wants before returned room after same verdict due written none =
    inl (record { told = bytes.items; says = inl verdict; written = written })
answered (Ok (answer.Wants wanted)) IsVerdict Asked Wants before returned room after same verdict due written none =
    inr (record {
      wants = subst Wants (sym written.0) verdict.0;
      more = omega (arith, same, verdict.1, written.0);
      unchanged = written.1;
    })
answered (Err e) IsVerdict Asked Wants before returned room after same verdict due written none =
    inl (record { told = none.told; says = inr (no_verdict Asked e none.told due none.says); written = none.written })
