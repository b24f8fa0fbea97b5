use Rattle.std.proofs.Common.{map, take}
use Rattle.p3_fs_core.specs.Interactions.{step_of}
use Rattle.p3_patterns.specs.OpenContainers.{AreOpen}
use Rattle.p3_patterns.proofs.sequence.walk.Given as goal

-- the containers are those that the steps so far leave open
abbrev pub invariant-loop-position : goal.invariant-loop-position
invariant-loop-position l = AreOpen (map step_of (take l.position l.steps)) l.containers.openers.items
