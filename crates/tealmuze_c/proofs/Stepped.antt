-- What a call of a transcript does, by what was found.
use Rattle.std.proofs.Common.{ℕ, ◌≡◌, ◌⊎◌, ◌<◌, List, [], ◌∷◌, length, inl, inr, arith, Result, Ok, Err}
use Rattle.std.specs.Result.{IfOk, IfErr}
use Rattle.tealmuze_c.specs.Told.{IsStep}
use Rattle.tealmuze_calls.specs.{Forms.IsWritten, Written.{ByAnswer, IsNoVerdict, IsTold, IsUnasked}}
use Rattle.tealmuze_calls.specs.declared.telling.Answer.{Answer}
use Rattle.tealmuze_calls.specs.declared.unanswered.Unanswered.{Unanswered}
use Rattle.tealmuze_calls.specs.declared.unanswered.Unanswered.TheVariants.{OutOfMemory}
use Rattle.tealmuze_calls.specs.declared.telling.Answer.TheVariants as answer

-- no verdict, where the transcript is as it was or memory ran out
unanswered : (Kept : Type 0) (e : Unanswered) (told : List ℕ) → Kept ⊎ (e ≡ OutOfMemory) →
    IsNoVerdict (e ≡ OutOfMemory) told → (IsUnasked told × Kept) ⊎ (told ≡ 3 ∷ [])
unanswered Kept e told due (inr three) = inr three
unanswered Kept e told (inl kept) (inl says) = inl (says.0, kept)
unanswered Kept e told (inr out) (inl says) = absurd (says.1 out)

pub stepped : {T : Type 0} (tells : T → List ℕ → List ℕ → T → Type 0) (was is : T) (request before after : List ℕ)
    (returned room : ℕ) (found : Result Answer Unanswered) → room ≡ length before →
    IfOk found (ByAnswer (λ told. tells was request told is) (λ wanted. (room < wanted) × (is ≡ was))) →
    IfErr found (λ e. (is ≡ was) ⊎ (e ≡ OutOfMemory)) →
    IfOk found (ByAnswer (λ bytes. IsWritten bytes before returned after)
    (λ wanted. (returned ≡ wanted) × (after ≡ before))) →
    IfErr found (λ e. IsTold (IsNoVerdict (e ≡ OutOfMemory)) before returned after) →
    IsStep tells was request before is after returned
stepped tells was is request before after returned room (Ok (answer.Told bytes)) same ok err written none =
    inl (record { told = bytes.items; says = inl ok; written = written })
stepped tells was is request before after returned room (Ok (answer.Wants wanted)) same ok err written none =
    inr (record { wants = ok.1; more = omega (arith, same, ok.0, written.0); unchanged = written.1 })
stepped tells was is request before after returned room (Err e) same ok err written none =
    inl (record { told = none.told; says = inr (unanswered (is ≡ was) e none.told err none.says); written = none.written })
