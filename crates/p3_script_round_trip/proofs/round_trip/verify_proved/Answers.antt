use Rattle.p3_script_round_trip.proofs.Proofs.{proved-same, proved-memory, map_ok, map_err}
use Rattle.p3_script_round_trip.proofs.round_trip.verify_proved.Goals as goal

pub verify-requires-clause-carried : goal.verify-requires-clause-carried
verify-requires-clause-carried g c = rw c.deref.ensures.value c.requires.proved.1

pub returns-clause-accepted : goal.returns-clause-accepted
returns-clause-accepted g c = rw (c.deref.ensures.value, c.deref-2.ensures.value) at c.verify.ensures.accepted

pub returns-clause-same : goal.returns-clause-same
returns-clause-same g c =
    let accepted = rw (c.deref.ensures.value, c.deref-2.ensures.value) at c.verify.ensures.accepted in
    map_ok c.verify.result accepted (λ v a. proved-same _ _ _ _ _ _ _ _ _ c.requires.proved.0 _ _ _ a)

pub returns-clause-only_memory : goal.returns-clause-only_memory
returns-clause-only_memory g c =
    let p = rw (← c.deref.ensures.value, ← c.deref-2.ensures.value) at c.requires.proved.0 in
    map_err c.verify.result c.verify.ensures.refused (λ f refused. proved-memory _ _ _ _ _ _ _ _ _ p _ refused.1)
