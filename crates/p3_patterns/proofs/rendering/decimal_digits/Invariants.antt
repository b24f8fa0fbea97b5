use Rattle.std.{proofs.Common.{◌≡◌, ◌+◌, ◌≤◌, length}, specs.Fmt.decimal}
use Rattle.p3_patterns.proofs.rendering.decimal_digits.Given as goal

abbrev pub invariant-loop-rest : goal.invariant-loop-rest
invariant-loop-rest l = (l.digits + length (decimal l.rest) ≡ length (decimal l.n) + 1) × (l.rest ≤ l.n)

abbrev pub decreases-loop-rest : goal.decreases-loop-rest
decreases-loop-rest l = l.rest
