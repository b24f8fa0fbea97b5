-- An element of a prime field in the proof: its canonical number, highest byte first, in as few bytes as
-- the order needs.
use Rattle.std.specs.Prelude.{ℕ, List, length, take, drop, codes, nat_lt, Result, Ok, Err, if◌then◌else◌}
use Rattle.p3_field_core.specs.Residues.{Residues}
use Rattle.p3_fs_core.specs.{BigEndian.{big_endian, in_bytes, bytes_for}, Encoding.Encoding}

-- the encoding of an element
abbrev pub wire : {F : Type 0} → Residues F → ℕ → F → List ℕ
wire r width x = in_bytes width (r.number x)

-- the reason where bytes are too few for an element
abbrev pub not_enough_bytes : List ℕ
not_enough_bytes = codes "not enough bytes for a canonical field encoding"

abbrev pub outside_range : List ℕ
outside_range = codes "field encoding outside canonical range"

-- the element with this canonical number and the bytes after it, or the reason why there is none
abbrev pub element_of : {F : Type 0} → Residues F → ℕ → List ℕ → Result (F × List ℕ) (List ℕ)
element_of r n rest = if nat_lt n r.order then Ok (r.of n, rest) else Err outside_range

-- the reading at the head of bytes: an element and the bytes after it, or the reason why there is none
abbrev pub read : {F : Type 0} → Residues F → ℕ → List ℕ → Result (F × List ℕ) (List ℕ)
read r width bytes =
    if nat_lt (length bytes) width
    then Err not_enough_bytes
    else element_of r (big_endian (take width bytes)) (drop width bytes)

-- the encoding of elements of a field, given the bit length of its order
abbrev pub encoding : {F : Type 0} → Residues F → ℕ → Encoding F
encoding r bits = record { width = bytes_for bits; wire = wire r (bytes_for bits); read = read r (bytes_for bits) }
