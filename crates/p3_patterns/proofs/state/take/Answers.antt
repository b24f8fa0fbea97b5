use Rattle.std.proofs.Common.{◌≡◌, length, map, rules}
use Rattle.p3_fs_core.specs.Interactions.{step_of}
use Rattle.p3_patterns.{specs.PatternGrammar.MayFollow, proofs.OpenPositions.open-pushed}
use Rattle.p3_patterns.proofs.state.take.Goals as goal

pub returns-clause-taken : goal.returns-clause-taken
returns-clause-taken c = λ _.
    let steps = c.args.steps.now.items in
    let count : c.len.result ≡ length steps = search rules in
    let viable : MayFollow (step_of c.args.next.now) (map step_of steps) =
    rw c.deref.ensures.value at (c.may_follow.ensures.0 c.if-not-may_follow.false) in
    let r = open-pushed steps _ c.args.next.now c.args.containers.now.openers.items _ c.requires viable
    (rw count at c.in_ok-follow.ensures.ok) (rw c.in_ok-reserve.ensures.items at c.push_reserved.ensures.items) in
    (viable, r.0, r.1)
