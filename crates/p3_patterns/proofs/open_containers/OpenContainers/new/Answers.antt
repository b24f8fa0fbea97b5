use Rattle.p3_patterns.proofs.OpenPositions.{none-open}
use Rattle.p3_patterns.proofs.open_containers.OpenContainers.new.Goals as goal

pub returns : goal.returns
returns c = rw c.new.ensures.items none-open
