-- How numbers, texts, lists and values stand in descriptions and answers, and what a call writes.
use Rattle.std.specs.Prelude.{◌≡◌, ℕ, ◌<◌, ◌≤◌, List, [], ◌∷◌, ◌++◌, length, flat_map, drop}
use Rattle.std.specs.Int.{w64, to_le_bytes}
use Rattle.p3_challenger.specs.Values.{Value, Challenge}
use Rattle.p3_challenger.specs.Values as value

-- a number: 8 bytes, the lowest first
abbrev pub number_bytes : ℕ → List ℕ
number_bytes n = to_le_bytes w64 n

-- a text: its length, in one byte, and its bytes
abbrev pub text_bytes : List ℕ → List ℕ
text_bytes text = length text ∷ text

-- bytes after their number
abbrev pub counted_bytes : List ℕ → List ℕ
counted_bytes bytes = number_bytes (length bytes) ++ bytes

-- what each of a list is encoded as, after their number
abbrev pub listed_bytes : {T : Type 0} → (T → List ℕ) → List T → List ℕ
listed_bytes bytes xs = number_bytes (length xs) ++ flat_map bytes xs

module _ {F EF : Type 0} (number : F → ℕ) (coefficients : EF → List F) where
  -- a scalar, and an element of the extension by its coefficients
  abbrev pub scalar_bytes : F → List ℕ
  scalar_bytes x = number_bytes (number x)

  abbrev pub element_bytes : EF → List ℕ
  element_bytes x = flat_map scalar_bytes (coefficients x)

  -- a value that the proof carries. (Where nothing stands there is no value)
  abbrev pub value_bytes : Value F EF → List ℕ
  value_bytes value.Nothing = []
  value_bytes (value.Bytes bytes) = 0 ∷ counted_bytes bytes
  value_bytes (value.Scalar x) = 1 ∷ scalar_bytes x
  value_bytes (value.Scalars xs) = 2 ∷ listed_bytes scalar_bytes xs
  value_bytes (value.Extension x) = 3 ∷ element_bytes x
  value_bytes (value.Witness x) = 4 ∷ scalar_bytes x

  -- what is drawn at a step
  abbrev pub challenge_bytes : Challenge F EF → List ℕ
  challenge_bytes (value.OfScalars xs) = 2 ∷ listed_bytes scalar_bytes xs
  challenge_bytes (value.OfExtensions xs) = 5 ∷ listed_bytes element_bytes xs
  challenge_bytes (value.OfBits xs) = 6 ∷ listed_bytes number_bytes xs

-- What a call writes of these bytes, and returns: their number. They stand at the beginning of the room, where they fit
-- in, and nothing else is changed.
pub record IsWritten (bytes : List ℕ) (before : List ℕ) (returned : ℕ) (after : List ℕ) : Type 0 where
  pub wanted : returned ≡ length bytes
  pub fits : returned ≤ length before → after ≡ bytes ++ drop returned before
  pub too_long : length before < returned → after ≡ before
