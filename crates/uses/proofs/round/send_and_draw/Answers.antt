use Rattle.std.proofs.lemmas.Result.{err_from_is_err_and}
use Rattle.uses.proofs.SentAndDrawn.{sent-refused, drawn-refused}
use Rattle.uses.proofs.round.send_and_draw.Goals as goal

pub returns-in_err-add_scalar-clause-err : goal.returns-in_err-add_scalar-clause-err
returns-in_err-add_scalar-clause-err g c =
    let p = err_from_is_err_and c.from_residual.result c.from_residual.ensures.1 in
    rw (p.1) (sent-refused g.C.Sponge.fed g.C.Sponge.fed_nothing g.C.Sponge.fed_more g.C.Sponge.next _
    (c.values_feed_their_symbols.ensures.value c.args.value.now) _ _ c.in_err-add_scalar.field-0.0
    c.in_err-add_scalar.ensures)

pub returns-clause-err : goal.returns-clause-err
returns-clause-err g c =
    drawn-refused g.C.Sponge.fed g.C.Sponge.fed_nothing g.C.Sponge.fed_more g.C.Sponge.next _
    (c.values_feed_their_symbols.ensures.value c.args.value.now) _ _ c.draws_feed_nothing.ensures.value _ _ _ _
    c.challenge_scalar.result c.in_ok-add_scalar.ensures c.challenge_scalar.ensures
