use Rattle.std.proofs.Common.{◌≡◌, ℕ, ◌<◌, length, slice_index_or}
use Rattle.p3_test_support.proofs.Digests.{digest_place}
use Rattle.p3_test_support.proofs.test_hashers.digest_from.Given as goal

-- each place so far counts on from the first
abbrev pub invariant-loop-i : goal.invariant-loop-i
invariant-loop-i l =
    (length l.digest ≡ 32) × ((j : ℕ) → j < l.i → slice_index_or l.digest j 0 ≡ digest_place l.first j)
