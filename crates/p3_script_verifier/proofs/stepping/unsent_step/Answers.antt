use Rattle.std.proofs.lemmas.Result.{err_from_is_err_and}
use Rattle.p3_script_verifier.proofs.Taking.{alike-taken, alike-refused}
use Rattle.p3_script_verifier.proofs.stepping.unsent_step.Goals as goal

pub returns-in_err-drawn-in_default : goal.returns-in_err-drawn-in_default
returns-in_err-drawn-in_default g c =
    let p = err_from_is_err_and c.from_residual.result c.from_residual.ensures.1 in
    rw (p.1, p.2) (record { comes = alike-refused _ _ _ _ _ _ _ c.in_err-drawn-in_default.ensures })

pub returns-in_ok-drawn-in_default : goal.returns-in_ok-drawn-in_default
returns-in_ok-drawn-in_default g c = record { comes = alike-taken _ _ _ _ c.in_ok-drawn-in_default.ensures.comes }
