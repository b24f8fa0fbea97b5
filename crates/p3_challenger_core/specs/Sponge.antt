-- What all challengers have in common: a state to which symbols are fed, observations of values as
-- symbols, and draws of values.
use Rattle.std.specs.Prelude.{◌≡◌, ℕ, zero, suc, List, [], ◌∷◌, ◌++◌}

-- the list has an element
abbrev pub IsNonEmpty : {S : Type 0} → List S → Type 0
IsNonEmpty [] = ⊥
IsNonEmpty (x ∷ xs) = Unit {0}

-- A state is what another becomes after symbols are fed. Without symbols it may at most have dropped
-- outputs, which no later symbol shows.
pub record IsFed {S Symbol : Type 0} (fed : S → List Symbol → S) (s : S) (symbols : List Symbol) (t : S) : Type 0 where
  pub exactly : IsNonEmpty symbols → t ≡ fed s symbols
  pub traceless : (y : Symbol) (ys : List Symbol) → fed t (y ∷ ys) ≡ fed s (symbols ++ y ∷ ys)

-- the state after this many smallest draws
abbrev pub after_steps : {S : Type 0} → (S → S) → ℕ → S → S
after_steps next zero s = s
after_steps next (suc n) s = after_steps next n (next s)

-- a state is another one after some number of the smallest draws
abbrev pub IsStepsOn : {S : Type 0} → (S → S) → S → S → Type 0
IsStepsOn next s t = (n : ℕ) × (t ≡ after_steps next n s)
