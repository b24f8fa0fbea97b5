-- What the bytes of a description say, whatever suite plays it.
use Rattle.std.specs.Prelude.{◌≡◌, ℕ, ◌<◌, ◌^◌, List, ◌∷◌, ◌++◌, length}
use Rattle.std.specs.{List.All, Str.IsUtf8}
use Rattle.tealmuze_calls.specs.Forms.{number_bytes, text_bytes, counted_bytes, listed_bytes}

-- A step in a description: what it is, its label, and some numbers.
pub record Parts : Type 0 where
  pub what : ℕ
  pub label : List ℕ
  pub numbers : List ℕ

abbrev pub parts_bytes : Parts → List ℕ
parts_bytes parts = parts.what ∷ text_bytes parts.label ++ listed_bytes number_bytes parts.numbers

-- What stands after the suite: the version, the name, the chunks of the instance's label, and the steps.
pub record Reading : Type 0 where
  pub version : ℕ
  pub name : List ℕ
  pub chunks : List (List ℕ)
  pub steps : List Parts

abbrev pub reading_bytes : Reading → List ℕ
reading_bytes r = r.version ∷ text_bytes r.name ++ (listed_bytes counted_bytes r.chunks ++ listed_bytes parts_bytes r.steps)

-- a number has a form of 8 bytes
abbrev pub FitsWord : ℕ → Type 0
FitsWord n = n < 2 ^ 64

-- so many numbers, each such a number
pub record AreSoMany (count : ℕ) (Is : ℕ → Type 0) (numbers : List ℕ) : Type 0 where
  pub count_is : length numbers ≡ count
  pub each : All Is numbers

-- a list of so many, and each of its entries fits
pub record IsListHeld {T : Type 0} (IsHeld : T → Type 0) (xs : List T) : Type 0 where
  pub count : FitsWord (length xs)
  pub each : All IsHeld xs

-- the name and the labels are texts
pub record AreTexts (r : Reading) : Type 0 where
  pub name : IsUtf8 r.name
  pub labels : All (λ parts. IsUtf8 parts.label) r.steps

-- each number, length and count has a form of 8 bytes
pub record IsHeld (r : Reading) : Type 0 where
  pub chunks : IsListHeld (λ chunk. FitsWord (length chunk)) r.chunks
  pub steps : IsListHeld (λ parts. IsListHeld FitsWord parts.numbers) r.steps
