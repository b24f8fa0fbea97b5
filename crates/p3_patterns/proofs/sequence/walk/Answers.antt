use Rattle.std.proofs.Common.{arith}
use Rattle.p3_patterns.proofs.OpenPositions.{open-before}
use Rattle.p3_patterns.proofs.sequence.walk.Goals as goal

pub loop-position-preserved : goal.loop-position-preserved
loop-position-preserved c =
    open-before c.args.steps.now c.loop-position.position c.loop-position.containers.openers.items
    c.follow.new.self.openers.items _ (omega arith) c.loop-position.invariant
    (rw c.index-steps-position.is at (c.may_follow.ensures.0 c.if-not-may_follow.false))
    (rw c.index-steps-position.is at c.in_ok-follow.ensures.ok)
