use Rattle.std.proofs.Common.{drop}
use Rattle.uses.proofs.OwnHasher.{IsEvaluated}
use Rattle.uses.proofs.own_hasher.evaluate.Given as goal

abbrev pub invariant-loop-byte : goal.invariant-loop-byte
invariant-loop-byte l = IsEvaluated l.value (drop l.byte-index l.bytes) l.bytes
