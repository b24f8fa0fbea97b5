-- What a step of a run absorbs: field values as lists of coefficients, byte strings as bytes.
use Rattle.std.specs.Prelude.{ℕ, zero, suc, List, [], ◌∷◌}

-- nothing; bytes; elements of an algebra, each as its list of coefficients; an opaque value; or the witness of a check
-- of at least one bit
pub data Absorbed (F O : Type 0) : Type 0 where
  Nothing : Absorbed F O
  Bytes : List ℕ → Absorbed F O
  Elements : List (List F) → Absorbed F O
  Own : O → Absorbed F O
  Witness : F → Absorbed F O

-- the witness, if its check has at least one bit
abbrev pub witness_of : {F O : Type 0} → ℕ → F → Absorbed F O
witness_of zero x = Nothing
witness_of (suc more) x = Witness x

-- a scalar as a list of coefficients
abbrev pub alone : {F : Type 0} → F → List F
alone x = x ∷ []
