use Rattle.p3_challenger.specs.QueriesLaws.{number-decides}
use Rattle.uses.proofs.read_back.begin_with_bytes.Goals as goal

pub returns-clause-or_collides : goal.returns-clause-or_collides
returns-clause-or_collides g c = c.new.ensures.or_collides number-decides
