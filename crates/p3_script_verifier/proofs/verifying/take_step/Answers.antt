use Rattle.std.proofs.lemmas.Result.{err_from_is_err_and}
use Rattle.p3_script_verifier.proofs.Taking.{memory-refused}
use Rattle.p3_script_verifier.proofs.verifying.take_step.Goals as goal

pub returns-in_err-value-clause-err : goal.returns-in_err-value-clause-err
returns-in_err-value-clause-err g c =
    let p = err_from_is_err_and c.from_residual.result c.from_residual.ensures.1 in
    rw (p.1, p.2) (record { after = _; refuses = c.in_err-value.ensures.comes })

pub returns-in_err-keep_received-clause-err : goal.returns-in_err-keep_received-clause-err
returns-in_err-keep_received-clause-err g c =
    let p = err_from_is_err_and c.from_residual-in_err-keep_received.result
    c.from_residual-in_err-keep_received.ensures.1 in
    rw (p.1, p.2) (memory-refused _ _ _ _ c.in_err-keep_received.ensures.err)

pub returns-in_err-keep_drawn-clause-err : goal.returns-in_err-keep_drawn-clause-err
returns-in_err-keep_drawn-clause-err g c =
    let p = err_from_is_err_and c.from_residual-in_err-keep_drawn.result
    c.from_residual-in_err-keep_drawn.ensures.1 in
    rw (p.1, p.2) (memory-refused _ _ _ _ c.in_err-keep_drawn.ensures.err)
