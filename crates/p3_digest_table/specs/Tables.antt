-- A table of texts, each with a given digest.
use Rattle.std.specs.Prelude.{◌≡◌, ℕ, ◌==◌, ◌&&◌, ◌⊎◌, Bool, true, List, [], ◌∷◌, Option, Some, None, bytes_eq, if◌then◌else◌, length, nat_lt, unwrap_or}
use Rattle.p3_digest_table.specs.declared.known_digest.KnownDigest.{KnownDigest}

-- a line of a table
pub record Line : Type 0 where
  pub text : List ℕ
  pub digest : List ℕ

-- the line of a value of the program
abbrev pub line_of : KnownDigest → Line
line_of known = record { text = known.text.now; digest = known.digest }

-- the digest in the first line with this text
abbrev pub found : List Line → List ℕ → Option (List ℕ)
found [] text = None
found (line ∷ lines) text = if bytes_eq line.text text then Some line.digest else found lines text

-- the digest of a text by a table, or else the other digest
abbrev pub digest_by : List Line → List ℕ → List ℕ → List ℕ
digest_by lines other text = unwrap_or (found lines text) other

-- a digest stands in a table
abbrev pub IsGiven : List Line → List ℕ → Type 0
IsGiven [] digest = ⊥
IsGiven (line ∷ lines) digest = (line.digest ≡ digest) ⊎ IsGiven lines digest

-- whether each number is a byte
abbrev pub are_bytes : List ℕ → Bool
are_bytes [] = true
are_bytes (number ∷ numbers) = nat_lt number 256 && are_bytes numbers

-- whether each digest of a table has 32 bytes
abbrev pub are_digests : List Line → Bool
are_digests [] = true
are_digests (line ∷ lines) = (length line.digest == 32 && are_bytes line.digest) && are_digests lines
