-- A digest under SHA-256 is a digest of bytes.
use Rattle.std.{specs.Prelude.{ℕ, zero, suc, ◌<◌, List, [], ◌∷◌, ◌++◌, slice_index}, proofs.Common.lit<}
use Rattle.std.{proofs.Math.Nat.mod-lt, specs.Int.{to_be_bytes, w32}}
use Rattle.sha2.{specs.Sha256.{sha256, digest_bytes, final_hash, initial_hash_256}, proofs.Facts256.length-sha256}
use Rattle.p3_symmetric.specs.Digests.{IsDigest}

-- each place of a list is a byte
abbrev AllBytes : List ℕ → Type 0
AllBytes bytes = (i : ℕ) → slice_index bytes i < 256

bytes-append : (xs ys : List ℕ) → AllBytes xs → AllBytes ys → AllBytes (xs ++ ys)
bytes-append [] ys x_are y_are i = y_are i
bytes-append (x ∷ xs) ys x_are y_are zero = x_are zero
bytes-append (x ∷ xs) ys x_are y_are (suc i) = bytes-append xs ys (λ j. x_are (suc j)) y_are i

word-bytes : (n : ℕ) → AllBytes (to_be_bytes w32 n)
word-bytes n zero = mod-lt _ (lit< tt)
word-bytes n (suc zero) = mod-lt _ (lit< tt)
word-bytes n (suc (suc zero)) = mod-lt _ (lit< tt)
word-bytes n (suc (suc (suc zero))) = mod-lt _ (lit< tt)
word-bytes n (suc (suc (suc (suc i)))) = lit< tt

words-bytes : (words : List ℕ) (n : ℕ) → AllBytes (digest_bytes words n)
unfolding digest_bytes
words-bytes words zero = λ i. lit< tt
words-bytes words (suc n) =
    bytes-append (digest_bytes words n) (to_be_bytes w32 (slice_index words n)) (words-bytes words n)
    (word-bytes (slice_index words n))

sha256-bytes : (message : List ℕ) → AllBytes (sha256 message)
unfolding sha256
sha256-bytes message = words-bytes (final_hash initial_hash_256 message) 8

pub sha256-is_digest : (message : List ℕ) → IsDigest (sha256 message)
sha256-is_digest message = record { places = length-sha256 message; bytes = sha256-bytes message }
