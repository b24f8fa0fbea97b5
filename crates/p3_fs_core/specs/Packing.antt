-- A byte string as elements of a field: its length, followed by its bytes in chunks.
use Rattle.std.specs.Prelude.{ℕ, zero, suc, ◌+◌, ◌-◌, ◌*◌, ◌/◌, ◌<◌, List, [], ◌∷◌, length, map, take, drop}
use Rattle.p3_field_core.specs.Residues.{Residues}
use Rattle.p3_challenger_core.specs.Reading.{AreBytes}

-- the number that bytes encode, lowest first
abbrev pub little_endian : List ℕ → ℕ
little_endian [] = 0
little_endian (byte ∷ bytes) = byte + 256 * little_endian bytes

-- the number of bytes in a chunk, so that its number is below the order of the field
abbrev pub chunk_bytes : ℕ → ℕ
chunk_bytes bits = (bits - 1) / 8

-- the number of chunks; the last may be shorter
abbrev pub chunk_count : ℕ → ℕ → ℕ
chunk_count size len = (len + (size - 1)) / size

-- the first n chunks of bytes
unfoldable pub first_chunks : ℕ → ℕ → List ℕ → List (List ℕ)
first_chunks size zero bytes = []
first_chunks size (suc n) bytes = take size bytes ∷ first_chunks size n (drop size bytes)

abbrev pub chunks : ℕ → List ℕ → List (List ℕ)
chunks size bytes = first_chunks size (chunk_count size (length bytes)) bytes

-- the elements of the chunks of bytes
abbrev pub packed_chunks : {F : Type 0} → Residues F → ℕ → List ℕ → List F
packed_chunks r size bytes = map (λ chunk. r.of (little_endian chunk)) (chunks size bytes)

-- the elements of a byte string
abbrev pub packed : {F : Type 0} → Residues F → ℕ → List ℕ → List F
packed r size bytes = r.of (length bytes) ∷ packed_chunks r size bytes

-- the elements of a byte string in a field, given the bit length of its order
abbrev pub packed_elements : {F : Type 0} → Residues F → ℕ → List ℕ → List F
packed_elements r bits bytes = packed r (chunk_bytes bits) bytes

-- a byte string can be packed where its length is an element
abbrev pub IsPackable : {F : Type 0} → Residues F → List ℕ → Type 0
IsPackable r bytes = AreBytes bytes × (length bytes < r.order)
