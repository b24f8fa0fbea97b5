use Rattle.tealmuze_live.proofs.side.Side.verifier.Goals as goal

-- what is copied is the whole proof
pub returns-in-Ok-new-clause-ok : goal.returns-in-Ok-new-clause-ok
returns-in-Ok-new-clause-ok g c = rw c.in-Ok.ensures.items at c.in-Ok-new.ensures
