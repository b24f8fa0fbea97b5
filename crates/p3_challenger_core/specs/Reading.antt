-- The obligation of every code: it is a prefix code.
use Rattle.std.specs.Prelude.{◌≡◌, ℕ, ◌<◌, ◌⊎◌, List, ◌++◌, slice_index}
use Rattle.p3_challenger_core.specs.Sponge.{IsNonEmpty}

-- a prefix code of these values: no encoding begins another, no two values share one, and whatever follows,
-- an encoding determines its value
abbrev pub IsPrefixCodeOn : {T S : Type 0} → (T → Type 0) → (T → List S) → Type 0
IsPrefixCodeOn {T} {S} IsValue encoding =
    (x y : T) (a b : List S) → IsValue x → IsValue y → encoding x ++ a ≡ encoding y ++ b → (x ≡ y) × (a ≡ b)

-- a prefix code of all values
abbrev pub IsPrefixCode : {T S : Type 0} → (T → List S) → Type 0
IsPrefixCode {T} {S} encoding = (x y : T) (a b : List S) → encoding x ++ a ≡ encoding y ++ b → (x ≡ y) × (a ≡ b)

-- a number is a byte
abbrev pub IsByte : ℕ → Type 0
IsByte byte = byte < 256

-- each number is a byte
abbrev pub AreBytes : List ℕ → Type 0
AreBytes bytes = (i : ℕ) → slice_index bytes i < 256

-- one list is the other with something after it
abbrev pub OneBegins : {S : Type 0} → List S → List S → Type 0
OneBegins {S} a b = ((rest : List S) × (a ++ rest ≡ b)) ⊎ ((rest : List S) × (b ++ rest ≡ a))

-- the encodings are a prefix code, and no value has an empty one
pub record IsPrefixFree {T S : Type 0} (encoding : T → List S) : Type 0 where
  pub prefix_code : IsPrefixCode encoding
  pub some : (x : T) → IsNonEmpty (encoding x)
