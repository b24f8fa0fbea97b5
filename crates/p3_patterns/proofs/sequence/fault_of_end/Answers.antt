use Rattle.std.proofs.Common.{map}
use Rattle.p3_fs_core.specs.Interactions.{step_of}
use Rattle.p3_patterns.proofs.{FirstFaults.first-missing_end, OpenPositions.open-viable, Walking.open-no_pattern}
use Rattle.p3_patterns.proofs.sequence.fault_of_end.Goals as goal

pub unreachable-requires : goal.unreachable-requires
unreachable-requires c =
    open-no_pattern (map step_of c.args.interactions.items) c.args.containers.openers.items c.requires.open
    c.requires.some (rw c.deref.ensures.value at c.in-None.ensures.none)

pub returns : goal.returns
returns c =
    let steps = map step_of c.args.interactions.items in
    first-missing_end steps c.in-Some.position (step_of c.in-Some.begin.now)
    (open-viable steps c.args.containers.openers.items c.requires.open)
    (rw c.deref.ensures.value at c.in-Some.ensures.some)
