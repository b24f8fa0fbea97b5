use Rattle.std.proofs.{Common.{◌<◌, ◌^◌, map, length, refl, rules}, lemmas.List.length-map}
use Rattle.p3_fs_core.specs.Interactions.{step_of}
use Rattle.p3_patterns.proofs.{OneFault.one_fault, Walking.{refused-pattern, walked-pattern}}
use Rattle.p3_patterns.proofs.sequence.InteractionPattern.new.Goals as goal

-- steps with a first fault are no pattern
pub returns-in_default-clause-only : goal.returns-in_default-clause-only
returns-in_default-clause-only c = refused-pattern _ c.refuse_next.result c.refuse_next.ensures.err

pub returns-in_default-clause-one_fault : goal.returns-in_default-clause-one_fault
returns-in_default-clause-one_fault c = one_fault

pub returns-then-walked-len-clause-only : goal.returns-then-walked-len-clause-only
returns-then-walked-len-clause-only c =
    refused-pattern _ c.refuse_next-then-walked-len.result c.refuse_next-then-walked-len.ensures.err

pub returns-then-walked-len-clause-one_fault : goal.returns-then-walked-len-clause-one_fault
returns-then-walked-len-clause-one_fault c = one_fault

pub returns-then-not-is_empty-clause-one_fault : goal.returns-then-not-is_empty-clause-one_fault
returns-then-not-is_empty-clause-one_fault c = one_fault

-- all steps were walked over, and no container is open
pub invariant_of-result : goal.invariant_of-result
invariant_of-result c =
    let few : length (map step_of c.args.interactions.items) < 2 ^ 64 = rw length-map (search rules) in
    let pattern = walked-pattern c.args.interactions.items _ c.walk.new.containers.openers.items
    (rw c.deref.ensures.value at c.in-Ok.ensures) (search rules) (c.is_empty.ensures.0 c.if-not-is_empty.false) in
    (∣ pattern ∣₁, (few, tt))

pub returns-clause-ok : goal.returns-clause-ok
returns-clause-ok c = (
  refl,
  walked-pattern c.args.interactions.items c.in-Ok.walked c.walk.new.containers.openers.items
      (rw c.deref.ensures.value at c.in-Ok.ensures) (search rules) (c.is_empty.ensures.0 c.if-not-is_empty.false),
)

pub returns-clause-one_fault : goal.returns-clause-one_fault
returns-clause-one_fault c = one_fault
