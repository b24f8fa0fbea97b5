use Rattle.std.proofs.{Common.{codes, ap, ◌∙◌}, lemmas.Result.err_from_is_err_and}
use Rattle.p3_challenger.specs.{Kind.TheVariants.Challenge, Length.TheVariants.Scalar}
use Rattle.p3_sumcheck.proofs.Declaring.{alike, declares-more, stops-first, stops-second}
use Rattle.p3_sumcheck.proofs.pattern.declare.Goals as goal

pub loop-preserved : goal.loop-preserved
loop-preserved g c =
    record {
      recorded = declares-more _ _ c.loop.counter c.args.recorder.now c.loop.recorder c.interact.new.self
          c.interact-in-loop.new.self c.loop.invariant.recorded c.in_ok-interact.ensures.ok
          c.in_ok-interact-2.ensures.ok;
      going = λ _. ap (λ r. r.finished) c.in_ok-interact-2.ensures.ok.recorded;
    }

pub returns-in_err-interact-clause-err : goal.returns-in_err-interact-clause-err
returns-in_err-interact-clause-err g c =
    let pair = c.algebra-pair.ensures in
    let challenge = c.of_same_type-challenge.ensures ∙ ap (alike Challenge (codes "fold") Scalar) pair in
    let p = err_from_is_err_and c.from_residual.result c.from_residual.ensures.1 in
    rw (p.1, p.2)
    (stops-first _ _ _ _ pair challenge c.loop.counter c.args.rounds c.args.recorder.now c.loop.recorder
    c.loop-test.true c.loop.invariant.recorded c.interact.new.self _ c.in_err-interact.ensures.err).0

pub returns-in_err-interact-2-clause-err : goal.returns-in_err-interact-2-clause-err
returns-in_err-interact-2-clause-err g c =
    let pair = c.algebra-pair.ensures in
    let challenge = c.of_same_type-challenge.ensures ∙ ap (alike Challenge (codes "fold") Scalar) pair in
    let p = err_from_is_err_and c.from_residual-in_err-interact-2.result
    c.from_residual-in_err-interact-2.ensures.1 in
    rw (p.1, p.2)
    (stops-second _ _ _ _ pair challenge c.loop.counter c.args.rounds c.args.recorder.now c.loop.recorder
    c.loop-test.true c.loop.invariant.recorded c.interact.new.self c.interact-in-loop.new.self _ c.in_ok-interact.ensures.ok c.in_err-interact-2.ensures.err).0

pub returns-in_err-interact-clause-only : goal.returns-in_err-interact-clause-only
returns-in_err-interact-clause-only g c going viable =
    let pair = c.algebra-pair.ensures in
    let challenge = c.of_same_type-challenge.ensures ∙ ap (alike Challenge (codes "fold") Scalar) pair in
    let p = err_from_is_err_and c.from_residual.result c.from_residual.ensures.1 in
    rw (p.1, p.2)
    ((stops-first _ _ _ _ pair challenge c.loop.counter c.args.rounds c.args.recorder.now c.loop.recorder
    c.loop-test.true c.loop.invariant.recorded c.interact.new.self _ c.in_err-interact.ensures.err).1 (c.loop.invariant.going going) viable)

pub returns-in_err-interact-2-clause-only : goal.returns-in_err-interact-2-clause-only
returns-in_err-interact-2-clause-only g c going viable =
    let pair = c.algebra-pair.ensures in
    let challenge = c.of_same_type-challenge.ensures ∙ ap (alike Challenge (codes "fold") Scalar) pair in
    let one = c.in_ok-interact.ensures.ok in
    let p = err_from_is_err_and c.from_residual-in_err-interact-2.result
    c.from_residual-in_err-interact-2.ensures.1 in
    rw (p.1, p.2)
    ((stops-second _ _ _ _ pair challenge c.loop.counter c.args.rounds c.args.recorder.now c.loop.recorder
    c.loop-test.true c.loop.invariant.recorded c.interact.new.self c.interact-in-loop.new.self _ one c.in_err-interact-2.ensures.err).1 (ap (λ r. r.finished) one.recorded) viable)
