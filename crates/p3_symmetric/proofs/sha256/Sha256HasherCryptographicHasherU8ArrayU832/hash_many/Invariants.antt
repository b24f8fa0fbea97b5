use Rattle.std.proofs.Common.{◌≡◌, ℕ, ◌+◌, ◌*◌, ◌<◌, Some, slice_get, slice_range}
use Rattle.sha2.specs.Sha256.{sha256}
use Rattle.p3_symmetric.proofs.sha256.Sha256HasherCryptographicHasherU8ArrayU832.hash_many.Given as goal

-- each message of the groups so far has its digest
abbrev pub invariant-fours : goal.invariant-fours
invariant-fours l = (i : ℕ) → i < 4 * l.group
    → slice_get l.digests i ≡ Some (sha256 (slice_range l.messages (i * l.each) (i * l.each + l.each)))

-- each message so far has its digest
abbrev pub invariant-rest : goal.invariant-rest
invariant-rest l = (i : ℕ) → i < l.j
    → slice_get l.digests i ≡ Some (sha256 (slice_range l.messages (i * l.each) (i * l.each + l.each)))
