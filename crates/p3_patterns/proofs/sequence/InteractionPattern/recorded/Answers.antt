use Rattle.std.proofs.{Common.{◌<◌, ◌^◌, map, length, refl, rules}, lemmas.List.length-map}
use Rattle.p3_fs_core.specs.Interactions.{step_of}
use Rattle.p3_patterns.proofs.Walking.{closed-pattern}
use Rattle.p3_patterns.proofs.sequence.InteractionPattern.recorded.Goals as goal

-- no container is open, so the steps are a pattern
pub invariant_of-result : goal.invariant_of-result
invariant_of-result c =
    let few : length (map step_of c.args.interactions.items) < 2 ^ 64 = rw length-map (search rules) in
    (∣ closed-pattern _ _ c.requires (c.is_empty.ensures.0 c.if-is_empty.true) ∣₁, (few, tt))

pub returns-then-is_empty-clause-ok : goal.returns-then-is_empty-clause-ok
returns-then-is_empty-clause-ok c =
    (refl, closed-pattern _ c.args.containers.openers.items c.requires (c.is_empty.ensures.0 c.if-is_empty.true))
