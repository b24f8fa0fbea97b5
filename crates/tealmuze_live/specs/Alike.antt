-- A side of one suite, and what is told of it.
use Rattle.std.specs.Prelude.{◌≡◌, ℕ, List}

-- Of a request, this is told, and the side is of the same suite then.
abbrev pub TellsOf : {A B : Type 0} → (A → B) → (A → List ℕ → List ℕ → A → Type 0) → A → List ℕ → List ℕ → B → Type 0
TellsOf {A} of tells was request told is = (then : A) × ((is ≡ of then) × tells was request told then)
