-- Numbers as bytes, lowest byte first.
use Rattle.std.specs.Prelude.{ℕ, zero, suc, ◌+◌, ◌*◌, ◌/◌, ◌%◌, ◌<◌, List, [], ◌∷◌, slice_index}

-- the n lowest bytes of a number
unfoldable pub bytes_of : ℕ → ℕ → List ℕ
bytes_of zero x = []
bytes_of (suc n) x = x % 256 ∷ bytes_of n (x / 256)

-- the number that bytes encode
unfoldable pub number_of : List ℕ → ℕ
number_of [] = 0
number_of (byte ∷ bytes) = byte + 256 * number_of bytes

-- a number is a word of 64 bits
abbrev pub IsWord : ℕ → Type 0
IsWord word = word < 18446744073709551616

-- each number is a word
abbrev pub AreWords : List ℕ → Type 0
AreWords words = (i : ℕ) → IsWord (slice_index words i)
