-- Sums of bytes, taken one byte at a time, and the places of a digest.
use Rattle.std.proofs.Common.{◌≡◌, refl, map, ℕ, ◌+◌, ◌%◌, ◌<◌, List, length, take, slice_index_or, ap, sym, ◌∙◌}
use Rattle.std.{specs.List.{range_with_len, sum}, proofs.Math.Nat.mod-add-mod, proofs.lemmas.List.Sums.sum_by_more}
use Rattle.p3_test_support.specs.LengthHasher.{digest_of_length}

-- one more byte
pub sum_more : (bytes : List ℕ) (i d : ℕ) → i < length bytes →
    (sum (take i bytes) % 256 + slice_index_or bytes i d) % 256 ≡ sum (take (i + 1) bytes) % 256
sum_more bytes i d inside =
    mod-add-mod (sum (take i bytes)) 256 (slice_index_or bytes i d)
    ∙ ap (λ total. total % 256) (sym (sum_by_more (λ x. x) bytes i d inside))

-- place i of the digest is the first byte plus i, modulo 256
abbrev pub digest_place : ℕ → ℕ → ℕ
digest_place first i = (first + i) % 256

pub digest_places : (first : ℕ) → map (digest_place first) (range_with_len 0 32) ≡ digest_of_length first
digest_places first = refl
