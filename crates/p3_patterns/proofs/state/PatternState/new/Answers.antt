use Rattle.p3_patterns.proofs.state.PatternState.new.Goals as goal

pub invariant_of-result : goal.invariant_of-result
invariant_of-result g c = rw c.new.ensures.items c.new-2.ensures
