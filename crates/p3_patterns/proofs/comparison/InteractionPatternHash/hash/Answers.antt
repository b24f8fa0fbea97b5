use Rattle.std.{proofs.Common.{sym, ap, ◌∙◌}, specs.List.fold, specs.Cmp.Derive.Mapped.items_map}
use Rattle.p3_patterns.proofs.PatternEquality.{placed, pattern-placed}
use Rattle.p3_fs_core.specs.contracts.interaction.InteractionHash.TheImpl as interactions
use Rattle.p3_patterns.proofs.comparison.InteractionPatternHash.hash.Goals as goal

pub returns : goal.returns
returns g c =
    let xs = c.interactions.result.now in
    rw (pattern-placed xs c.args.self.now c.interactions.ensures) (c.hash.ensures
    ∙ ap (fold g.H.Hasher.write c.args.state.now) (sym (items_map placed interactions.ghosts.hash_input xs)))
