use Rattle.std.proofs.Common.{◌∙◌, sym, rules, arith}
use Rattle.p3_driver_core.proofs.Rejections.{seeks-start, seeks-next, seeks-takes, seeks-refused, seeks-none}
use Rattle.p3_driver_core.proofs.candidates.draw_taken.Goals as goal

pub loop-init : goal.loop-init
loop-init g c = λ rule computes. seeks-start (omega arith)

pub returns-in_err-candidate : goal.returns-in_err-candidate
returns-in_err-candidate g c = λ rule computes.
    let stops = seeks-refused (omega arith) (c.loop.invariant rule computes) c.in_err-candidate.field-0.0
    (g.C.Sponge.state c.draw.new.challenger) c.in_err-candidate.ensures.err in
    search (rules, stops)

pub returns-then-accept : goal.returns-then-accept
returns-then-accept g c = λ rule computes. seeks-takes (omega arith) c.in_ok-candidate.ensures.drawn
    c.in_ok-candidate.ensures.after (sym (computes _ _ _ c.accept.ensures) ∙ c.if-accept.true)
    (c.loop.invariant rule computes)

pub loop-preserved : goal.loop-preserved
loop-preserved g c = λ rule computes. seeks-next (omega arith) c.in_ok-candidate.ensures.drawn
    c.in_ok-candidate.ensures.after (sym (computes _ _ _ c.accept.ensures) ∙ c.if-accept.false)
    (c.loop.invariant rule computes)

pub returns : goal.returns
returns g c = λ rule computes. seeks-none (omega arith) (c.loop.invariant rule computes)
