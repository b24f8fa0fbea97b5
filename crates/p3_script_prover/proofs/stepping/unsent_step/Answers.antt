use Rattle.std.proofs.lemmas.Result.{err_from_is_err_and}
use Rattle.p3_script_prover.proofs.Handing.{alike-sent, alike-refused}
use Rattle.p3_script_prover.proofs.stepping.unsent_step.Goals as goal

pub returns-in_err-drawn-in_default : goal.returns-in_err-drawn-in_default
returns-in_err-drawn-in_default g c =
    let p = err_from_is_err_and c.from_residual.result c.from_residual.ensures.1 in
    rw (p.1, p.2)
    (record { comes = λ given is. record { comes = alike-refused _ _ _ _ _ _ given c.in_err-drawn-in_default.ensures } })

pub returns-in_ok-drawn-in_default : goal.returns-in_ok-drawn-in_default
returns-in_ok-drawn-in_default g c =
    record { comes = λ given is. record { comes = alike-sent _ _ _ given _ is c.in_ok-drawn-in_default.ensures.comes } }

pub returns-in-PublicScalarsBounded : goal.returns-in-PublicScalarsBounded
returns-in-PublicScalarsBounded g c = rw c.in-PublicScalarsBounded.is c.add_public_scalars_bounded.ensures

pub returns-in-ObserveExtensionsBounded : goal.returns-in-ObserveExtensionsBounded
returns-in-ObserveExtensionsBounded g c = rw c.in-ObserveExtensionsBounded.is c.observe_extensions_bounded.ensures
