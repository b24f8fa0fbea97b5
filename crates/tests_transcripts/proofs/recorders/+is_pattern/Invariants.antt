use Rattle.std.proofs.Common.{length, ◌<◌}
use Rattle.tests_transcripts.proofs.recorders.+is_pattern.Given as goal

abbrev pub decreases-is_pattern : goal.decreases-is_pattern
decreases-is_pattern l = length l.steps.now

-- what stands after the opener is shorter than all
abbrev pub invariant-loop-at : goal.invariant-loop-at
invariant-loop-at l = length l.rest < length l.steps
