use Rattle.std.proofs.{Common.{◌≡◌, arith, refl}, lemmas.Result.err_from_is_err_and}
use Rattle.p3_sumcheck.proofs.Outcomes.{reaches-more, reaches-none, refuses-at, refuses-room}
use Rattle.p3_sumcheck.proofs.verifier.receive_rounds.Goals as goal

pub loop-place-init : goal.loop-place-init
loop-place-init g c = reaches-none _ c.args.claim _ _ c.new-point.ensures.items

pub loop-place-preserved : goal.loop-place-preserved
loop-place-preserved g c =
    reaches-more _ c.args.claim _ c.loop-place.place _ _ _ _ _ _ _ c.loop-place.invariant c.in_ok-round.ensures.ok
    c.in_ok-round.ensures.adds c.value_at-current.ensures c.in_ok-push.ensures.items

pub returns-in_err-round-clause-refuses : goal.returns-in_err-round-clause-refuses
returns-in_err-round-clause-refuses g c =
    let p = err_from_is_err_and c.from_residual.result c.from_residual.ensures.1 in
    rw (p.1, p.2)
    (refuses-at _ c.args.claim _ c.loop-place.place c.args.rounds _ _ _ _ _ c.loop-place.invariant
    c.loop-place-test.true c.in_err-round.ensures.err)

pub returns-in_err-push-clause-refuses : goal.returns-in_err-push-clause-refuses
returns-in_err-push-clause-refuses g c =
    let p = err_from_is_err_and c.from_residual-in_err-push.result c.from_residual-in_err-push.ensures.1 in
    let more = reaches-more _ c.args.claim _ c.loop-place.place _ _ _ _ _ _ _ c.loop-place.invariant
    c.in_ok-round.ensures.ok c.in_ok-round.ensures.adds c.value_at-current.ensures refl in
    rw (p.1, p.2) (refuses-room _ c.args.claim _ _ c.args.rounds _ _ _ _ _ more (omega arith) refl refl)

pub returns-clause-accepts : goal.returns-clause-accepts
returns-clause-accepts g c =
    let all : c.loop-place.place ≡ c.args.rounds = omega (arith, c.loop-place-test.false, c.loop-place.auto.place-end) in
    rw all at c.loop-place.invariant
