use Rattle.std.specs.Cmp.Derive.Mapped.{slice_partial_cmp-map}
use Rattle.p3_patterns.proofs.PatternEquality.{placed, pattern-placed}
use Rattle.p3_fs_core.specs.contracts.interaction.InteractionPartialOrd.TheImpl as interactions
use Rattle.p3_patterns.proofs.comparison.InteractionPatternPartialOrd.partial_cmp.Goals as goal

pub returns : goal.returns
returns c =
    let first = pattern-placed c.interactions.result.now c.args.self.now c.interactions.ensures in
    let second = pattern-placed c.interactions-2.result.now c.args.other.now c.interactions-2.ensures in
    rw (first, second, slice_partial_cmp-map placed interactions.ghosts.partial_cmp) c.partial_cmp.ensures
