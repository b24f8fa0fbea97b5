-- A hash value after one more block, and a digest with one more word.
use Rattle.std.proofs.Common.{◌≡◌, ℕ, ◌+◌, ◌*◌, ◌≤◌, List, ◌++◌, length, take, drop, slice_index, refl, arith, add-one}
use Rattle.std.proofs.lemmas.Slice.{take-put_mid}
use Rattle.std.specs.Int.{w32, to_be_bytes}
use Rattle.sha2.specs.Sha256.{hash_after, compress, digest_bytes}

pub hash_after-next : (initial padded : List ℕ) (index : ℕ)
    → hash_after initial padded (index + 1)
    ≡ compress (hash_after initial padded index) (take 64 (drop (index * 64) padded))
unfolding hash_after
hash_after-next initial padded index = rw add-one refl

-- the bytes of word `i` are written after those of the words before it
pub digest_bytes-next : (digest hash_value word : List ℕ) (i k : ℕ)
    → take (4 * i) digest ≡ digest_bytes hash_value i → 4 * i ≤ length digest
    → word ≡ to_be_bytes w32 (slice_index hash_value i)
    → take (4 * (i + 1)) (take (4 * i) digest ++ (word ++ drop k (drop (4 * i) digest))) ≡ digest_bytes hash_value (i + 1)
unfolding digest_bytes
digest_bytes-next digest hash_value word i k held fits is =
    let four : length word ≡ 4 = rw is refl in
    let written = take-put_mid (4 * i) k digest word (4 * (i + 1)) (omega (arith, four)) fits in
    rw (written, held, is, add-one) refl
