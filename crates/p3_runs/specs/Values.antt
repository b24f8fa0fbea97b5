-- The values at the steps of a script that the script itself does not have, and the challenges drawn
-- there.
use Rattle.std.specs.Prelude.{ℕ, List, [], ◌∷◌, Option, Some, None}

-- the value at a step: nothing, or a value that the proof or the caller carries
pub data Value (F EF : Type 0) : Type 0 where
  Nothing : Value F EF
  Bytes : List ℕ → Value F EF
  Scalar : F → Value F EF
  Scalars : List F → Value F EF
  Extension : EF → Value F EF
  Witness : F → Value F EF

-- the challenge drawn at a step
pub data Challenge (F EF : Type 0) : Type 0 where
  OfScalars : List F → Challenge F EF
  OfExtensions : List EF → Challenge F EF
  OfBits : List ℕ → Challenge F EF

-- ---- the values of each type

abbrev pub bytes_in : {F EF : Type 0} → Value F EF → Option (List ℕ)
bytes_in (Bytes bytes) = Some bytes
bytes_in _ = None

abbrev pub scalar_in : {F EF : Type 0} → Value F EF → Option F
scalar_in (Scalar x) = Some x
scalar_in _ = None

abbrev pub scalars_in : {F EF : Type 0} → Value F EF → Option (List F)
scalars_in (Scalars xs) = Some xs
scalars_in _ = None

abbrev pub extension_in : {F EF : Type 0} → Value F EF → Option EF
extension_in (Extension x) = Some x
extension_in _ = None

abbrev pub witness_in : {F EF : Type 0} → Value F EF → Option F
witness_in (Witness x) = Some x
witness_in _ = None

-- there is no value
abbrev pub IsNothing : {F EF : Type 0} → Value F EF → Type 0
IsNothing Nothing = Unit {0}
IsNothing _ = ⊥

-- ---- witnesses as values

abbrev pub one_witness : {F EF : Type 0} → Option F → List (Value F EF)
one_witness None = []
one_witness (Some x) = Witness x ∷ []

abbrev pub all_witnesses : {F EF : Type 0} → List F → List (Value F EF)
all_witnesses [] = []
all_witnesses (x ∷ xs) = Witness x ∷ all_witnesses xs
