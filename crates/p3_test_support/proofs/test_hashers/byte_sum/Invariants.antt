use Rattle.std.{proofs.Common.{◌≡◌, ◌%◌, take}, specs.List.sum}
use Rattle.p3_test_support.proofs.test_hashers.byte_sum.Given as goal

-- the sum of the bytes so far
abbrev pub invariant-loop-byte : goal.invariant-loop-byte
invariant-loop-byte l = l.total ≡ sum (take l.byte-index l.bytes) % 256
