use Rattle.std.specs.Cmp.Derive.Mapped.{pointwise-map}
use Rattle.p3_patterns.proofs.PatternEquality.{placed, pattern-placed}
use Rattle.p3_fs_core.specs.contracts.interaction.InteractionPartialEq.TheImpl as interactions
use Rattle.p3_patterns.proofs.comparison.InteractionPatternPartialEq.eq.Goals as goal

pub returns : goal.returns
returns c =
    let first = pattern-placed c.interactions.result.now c.args.self.now c.interactions.ensures in
    let second = pattern-placed c.interactions-2.result.now c.args.other.now c.interactions-2.ensures in
    rw (first, second, pointwise-map placed interactions.ghosts.eq) c.eq.ensures
