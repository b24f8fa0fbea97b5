use Rattle.std.proofs.{Common.{inl, sym, ◌∙◌}, lemmas.Result.err_from_is_err_and}
use Rattle.p3_script_round_trip.proofs.round_trip.prove_and_verify.Goals as goal

pub returns-in_err-proved-clause-refused : goal.returns-in_err-proved-clause-refused
returns-in_err-proved-clause-refused g c =
    let p = err_from_is_err_and c.from_residual.result c.from_residual.ensures.1 in
    rw (p.1, p.2) (inl c.in_err-proved.ensures.refused)

pub verify_proved-requires-clause-proved : goal.verify_proved-requires-clause-proved
verify_proved-requires-clause-proved g c = rw c.requires.equal c.in_ok-proved.ensures.proved

pub returns-clause-accepted : goal.returns-clause-accepted
returns-clause-accepted g c =
    record { received = _; accepts = rw c.requires.equal at c.in_ok-challenges.ensures.accepted }

pub returns-clause-challenges : goal.returns-clause-challenges
returns-clause-challenges g c =
    let same = c.in_ok-challenges.ensures.same in same.verified.drawn_is ∙ sym same.proved.drawn_is

pub returns-clause-challengers : goal.returns-clause-challengers
returns-clause-challengers g c =
    let same = c.in_ok-challenges.ensures.same in same.verified.end_is ∙ sym same.proved.end_is
