-- Laws of tables: each value of a table is a digest, and stands in the table.
use Rattle.std.specs.Prelude.{◌≡◌, ℕ, zero, suc, ◌<◌, ◌==◌, ◌&&◌, ◌⊎◌, IsTrue, List, [], ◌∷◌, Some, bytes_eq, length, nat_lt, slice_index, unwrap_or, refl}
use Rattle.std.proofs.Common.{lit<, inl, inr}
use Rattle.std.proofs.lemmas.Bool.{and_parts, cond_both, eqb-true, ltb-true}
use Rattle.p3_digest_table.specs.Tables.{Line, found, digest_by, IsGiven, are_bytes, are_digests}
use Rattle.p3_symmetric.specs.Digests.{IsDigest}

bytes-each : (numbers : List ℕ) → IsTrue (are_bytes numbers) → (i : ℕ) → slice_index numbers i < 256
bytes-each [] holds i = lit< tt
bytes-each (number ∷ numbers) holds zero = ltb-true number 256 (and_parts (nat_lt number 256) (are_bytes numbers) holds).0
bytes-each (number ∷ numbers) holds (suc i) =
    bytes-each numbers (and_parts (nat_lt number 256) (are_bytes numbers) holds).1 i

bytes-digest : (digest : List ℕ) → IsTrue (length digest == 32 && are_bytes digest) → IsDigest digest
bytes-digest digest holds =
    let parts = and_parts (length digest == 32) (are_bytes digest) holds in
    record { places = eqb-true (length digest) 32 parts.0; bytes = bytes-each digest parts.1 }

pub digest_by-is_digest : (lines : List Line) (other text : List ℕ) → IsTrue (are_digests lines) → IsDigest other
    → IsDigest (digest_by lines other text)
digest_by-is_digest [] other text are is = is
digest_by-is_digest (line ∷ lines) other text are is =
    let parts = and_parts (length line.digest == 32 && are_bytes line.digest) (are_digests lines) are in
    cond_both (bytes_eq line.text text) (Some line.digest) (found lines text) (λ o. IsDigest (unwrap_or o other))
    (λ _. bytes-digest line.digest parts.0) (λ _. digest_by-is_digest lines other text parts.1 is)

-- a digest by a table is the other digest, or it stands in the table
pub digest_by-cases : (lines : List Line) (other text : List ℕ)
    → (digest_by lines other text ≡ other) ⊎ IsGiven lines (digest_by lines other text)
digest_by-cases [] other text = inl refl
digest_by-cases (line ∷ lines) other text =
    let later = digest_by-cases lines other text in
    cond_both (bytes_eq line.text text) (Some line.digest) (found lines text)
    (λ o. (unwrap_or o other ≡ other) ⊎ IsGiven (line ∷ lines) (unwrap_or o other))
    (λ _. inr (inl refl)) (λ _. elim later [ inl same ↦ inl same | inr given ↦ inr (inr given) ])
