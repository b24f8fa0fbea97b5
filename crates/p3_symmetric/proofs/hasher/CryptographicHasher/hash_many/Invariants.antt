use Rattle.std.proofs.Common.{◌≡◌, ℕ, ◌<◌, ◌+◌, ◌*◌, Some, slice_get, slice_range}
use Rattle.p3_symmetric.proofs.hasher.CryptographicHasher.hash_many.Given as goal

-- each message so far has its digest
abbrev pub invariant-messages : goal.invariant-messages
invariant-messages g l = (i : ℕ) → i < l.j → slice_get l.digests i
    ≡ Some (g.Self.CryptographicHasher.hash l.self (slice_range l.messages (i * l.each) (i * l.each + l.each)))
