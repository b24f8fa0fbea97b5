-- A digest under Keccak-256 is a list of 32 bytes.
use Rattle.std.{specs.Prelude.{◌≡◌, ℕ, zero, suc, ◌*◌, ◌<◌, List, [], ◌∷◌, ◌++◌, length, slice_index, refl}, proofs.Common.{lit<, arith, length-append}}
use Rattle.std.{proofs.Math.Nat.mod-lt, specs.Int.{to_le_bytes, w64}}
use Rattle.p3_keccak.specs.Keccak.{keccak256, lane_bytes}
use Rattle.p3_symmetric.specs.Digests.{IsDigest}

lane_bytes-length : (a : List ℕ) (n : ℕ) → length (lane_bytes a n) ≡ n * 8
unfolding lane_bytes
lane_bytes-length a zero = refl
lane_bytes-length a (suc n) =
    let before = lane_bytes-length a n in
    let last : length (to_le_bytes w64 (slice_index a n)) ≡ 8 = refl in
    let both = length-append (lane_bytes a n) (to_le_bytes w64 (slice_index a n)) in
    omega (arith, before, last, both)

-- each place of a list is a byte
abbrev AllBytes : List ℕ → Type 0
AllBytes bytes = (i : ℕ) → slice_index bytes i < 256

bytes-append : (xs ys : List ℕ) → AllBytes xs → AllBytes ys → AllBytes (xs ++ ys)
bytes-append [] ys x_are y_are i = y_are i
bytes-append (x ∷ xs) ys x_are y_are zero = x_are zero
bytes-append (x ∷ xs) ys x_are y_are (suc i) = bytes-append xs ys (λ j. x_are (suc j)) y_are i

word-bytes : (n : ℕ) → AllBytes (to_le_bytes w64 n)
word-bytes n zero = mod-lt _ (lit< tt)
word-bytes n (suc zero) = mod-lt _ (lit< tt)
word-bytes n (suc (suc zero)) = mod-lt _ (lit< tt)
word-bytes n (suc (suc (suc zero))) = mod-lt _ (lit< tt)
word-bytes n (suc (suc (suc (suc zero)))) = mod-lt _ (lit< tt)
word-bytes n (suc (suc (suc (suc (suc zero))))) = mod-lt _ (lit< tt)
word-bytes n (suc (suc (suc (suc (suc (suc zero)))))) = mod-lt _ (lit< tt)
word-bytes n (suc (suc (suc (suc (suc (suc (suc zero))))))) = mod-lt _ (lit< tt)
word-bytes n (suc (suc (suc (suc (suc (suc (suc (suc i)))))))) = lit< tt

lanes-bytes : (a : List ℕ) (n : ℕ) → AllBytes (lane_bytes a n)
unfolding lane_bytes
lanes-bytes a zero = λ i. lit< tt
lanes-bytes a (suc n) =
    bytes-append (lane_bytes a n) (to_le_bytes w64 (slice_index a n)) (lanes-bytes a n)
    (word-bytes (slice_index a n))

-- a digest has 32 bytes
pub length-keccak256 : (message : List ℕ) → length (keccak256 message) ≡ 32
unfolding keccak256
length-keccak256 message = lane_bytes-length _ 4

keccak256-bytes : (message : List ℕ) → AllBytes (keccak256 message)
unfolding keccak256
keccak256-bytes message = lanes-bytes _ 4

pub keccak256-is_digest : (message : List ℕ) → IsDigest (keccak256 message)
keccak256-is_digest message = record { places = length-keccak256 message; bytes = keccak256-bytes message }
