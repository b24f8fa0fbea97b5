-- What the errors of readers say.
use Rattle.std.specs.Prelude.{◌≡◌, ◌⊎◌, ℕ, List, ◌++◌, Result}
use Rattle.std.specs.Result.{IfErr}
use Rattle.tealmuze_calls.specs.declared.unanswered.Unanswered.{Unanswered}
use Rattle.tealmuze_calls.specs.declared.unanswered.Unanswered.TheVariants.{OutOfMemory}

-- memory ran out, or this is so
abbrev pub IsDueTo : Type 0 → Unanswered → Type 0
IsDueTo Reason e = (e ≡ OutOfMemory) ⊎ Reason

-- the bytes begin with none of these things in this form
abbrev pub BeginsWithNone : {T : Type 0} (IsOne : T → Type 0) (form : T → List ℕ) → List ℕ → Type 0
BeginsWithNone {T} IsOne form bytes = (x : T) (left : List ℕ) → IsOne x → bytes ≡ form x ++ left → ⊥

-- What is sought is seen in a result by `seen`: an error comes where there is none, or memory ran out.
abbrev pub FailsOnlyWithNone : {T A : Type 0} → Result T Unanswered → (seen : T → A) → (IsOne : A → Type 0) → Type 0
FailsOnlyWithNone {T} {A} result seen IsOne = IfErr result (IsDueTo ((x : A) → IsOne x → ⊥))

-- two things as one
abbrev pub both : {A B : Type 0} → A → B → A × B
both x y = (x, y)
