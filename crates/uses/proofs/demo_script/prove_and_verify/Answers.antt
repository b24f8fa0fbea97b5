use Rattle.std.proofs.lemmas.Result.{err_from_is_err_and}
use Rattle.uses.proofs.demo_script.prove_and_verify.Goals as goal

pub returns-in_err-proved-clause-refused : goal.returns-in_err-proved-clause-refused
returns-in_err-proved-clause-refused c =
    let p = err_from_is_err_and c.from_residual.result c.from_residual.ensures.1 in
    rw (p.1, p.2) (_, c.steps-steps.ensures.steps, rw c.challenger-prover.ensures at c.in_err-proved.ensures.refused)

pub returns-clause-proved : goal.returns-clause-proved
returns-clause-proved c =
    (_, c.steps-steps.ensures.steps, rw c.challenger-prover.ensures at c.in_ok-proved.ensures.proved)

pub returns-clause-accepted : goal.returns-clause-accepted
returns-clause-accepted c =
    (_, c.steps-steps.ensures.steps, rw c.challenger-prover.ensures at c.in_ok-proved.ensures.accepted)
