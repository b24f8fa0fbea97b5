-- What a call writes into its caller's bytes, and returns.
use Rattle.std.specs.Prelude.{◌≡◌, ◌⊎◌, ℕ, zero, suc, ◌<◌, ◌≤◌, List, ◌∷◌, [], length}
use Rattle.tealmuze_calls.specs.Forms.{IsWritten}
use Rattle.tealmuze_calls.specs.declared.telling.Answer.{Answer}
use Rattle.tealmuze_calls.specs.declared.telling.Answer.TheVariants as answer

-- nothing was asked that can be answered: why stands after the byte 2, as a text
pub record IsUnasked (told : List ℕ) : Type 0 where
  pub reason : List ℕ
  pub short : length reason ≤ 1000
  pub told_is : told ≡ 2 ∷ reason

-- an answer that gives no verdict: where this is not so, that nothing was asked that can be answered; or that memory ran out
abbrev pub IsNoVerdict : (Unless : Type 0) → List ℕ → Type 0
IsNoVerdict Unless told = (IsUnasked told × (Unless → ⊥)) ⊎ (told ≡ 3 ∷ [])

-- An answer of which this is so is written where it fits in; where it does not, nothing is. Its length is returned.
pub record IsTold (Says : List ℕ → Type 0) (before : List ℕ) (returned : ℕ) (after : List ℕ) : Type 0 where
  pub told : List ℕ
  pub says : Says told
  pub written : IsWritten told before returned after

-- More bytes are wanted than there are, nothing is written, and so many are returned.
pub record IsWanted (Wants : ℕ → Type 0) (before : List ℕ) (returned : ℕ) (after : List ℕ) : Type 0 where
  pub wants : Wants returned
  pub more : length before < returned
  pub unchanged : after ≡ before

-- A call tells a verdict, or why it gives none, where nothing is asked; or how many bytes are wanted for its answer, where
-- it has fewer.
abbrev pub Answers : (IsVerdict : List ℕ → Type 0) (IsAsked : Type 0) (Wants : ℕ → Type 0) → List ℕ → ℕ → List ℕ → Type 0
Answers IsVerdict IsAsked Wants before returned after =
    IsTold (λ told. IsVerdict told ⊎ IsNoVerdict IsAsked told) before returned after ⊎ IsWanted Wants before returned after

-- by what there is for the caller: a verdict, or how many bytes are wanted
abbrev pub ByAnswer : (List ℕ → Type 0) → (ℕ → Type 0) → Answer → Type 0
ByAnswer IsVerdict Wants (answer.Told bytes) = IsVerdict bytes.items
ByAnswer IsVerdict Wants (answer.Wants wanted) = Wants wanted

-- by the suite whose number is the first byte of a description: of what stands after it, and of what is told
abbrev pub BySuite : {T : Type 0} → List (List ℕ → T → Type 0) → List ℕ → T → Type 0
BySuite (first ∷ others) (zero ∷ protocol) told = first protocol told
BySuite (first ∷ others) (suc number ∷ protocol) told = BySuite others (number ∷ protocol) told
BySuite _ _ told = ⊥

-- the first byte of a description is this suite's, and of what stands after it this is so
abbrev pub IsOfSuite : ℕ → (List ℕ → Type 0) → List ℕ → Type 0
IsOfSuite suite Is [] = ⊥
IsOfSuite suite Is (number ∷ protocol) = (number ≡ suite) × Is protocol
