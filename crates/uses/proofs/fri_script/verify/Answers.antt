use Rattle.uses.proofs.fri_script.verify.Goals as goal

pub returns-clause-accepted : goal.returns-clause-accepted
returns-clause-accepted c = rw c.challenger.ensures at c.verify.ensures.accepted

pub returns-clause-refused : goal.returns-clause-refused
returns-clause-refused c = rw c.challenger.ensures at c.verify.ensures.refused
