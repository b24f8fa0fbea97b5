-- Numbers and counts as bytes, highest first.
use Rattle.std.specs.Prelude.{ℕ, ◌+◌, ◌*◌, ◌/◌, List, [], ◌∷◌, zero, suc, ◌^◌, nat_lt, if◌then◌else◌}
use Rattle.std.specs.Int.{bytes_high_first}

-- the number whose bytes are those of a first number and then these
abbrev pub big_endian_after : ℕ → List ℕ → ℕ
big_endian_after n [] = n
big_endian_after n (byte ∷ bytes) = big_endian_after (256 * n + byte) bytes

-- the number that the bytes encode
abbrev pub big_endian : List ℕ → ℕ
big_endian bytes = big_endian_after 0 bytes

-- a number in a given number of bytes
abbrev pub in_bytes : ℕ → ℕ → List ℕ
in_bytes width n = bytes_high_first width n

-- the number of bytes that a given number of bits takes
abbrev pub bytes_for : ℕ → ℕ
bytes_for bits = (bits + 7) / 8

-- the least of these widths in bytes, from this one on, that holds every number up to the greatest
abbrev pub least_width : ℕ → ℕ → ℕ → ℕ
least_width zero width max = width
least_width (suc more) width max = if nat_lt max (256 ^ width) then width else least_width more (width + 1) max

-- the width of a count: the fewest bytes that hold the greatest count, and at most 8
unfoldable pub count_width : ℕ → ℕ
count_width max = least_width 8 0 max

-- the bytes of the count, highest first
abbrev pub count_bytes : ℕ → ℕ → List ℕ
count_bytes max count = in_bytes (count_width max) count
