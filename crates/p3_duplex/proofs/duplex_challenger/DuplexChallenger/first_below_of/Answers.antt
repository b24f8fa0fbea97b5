use Rattle.std.proofs.Common.{◌<◌, ◌≤◌, Some, sym, ap, rules}
use Rattle.p3_grinding.specs.CandidateLaws.{seeks-next, seeks-gives, seeks-reached, seeks-none}
use Rattle.p3_duplex.proofs.Uniform.{below-true, below-false}
use Rattle.p3_duplex.proofs.duplex_challenger.DuplexChallenger.first_below_of.Goals as goal

pub returns-then-as_canonical_u64-bound : goal.returns-then-as_canonical_u64-bound
returns-then-as_canonical_u64-bound g c =
    let more : c.loop.counter < c.args.count = search (rules, c.loop-test.true) in
    let given = ap Some (sym c.draw-element.ensures.value) in
    let accepted = below-true _ _ _ c.as_canonical_u64.ensures c.if-as_canonical_u64-bound.true in (
      seeks-gives _ _ c.args.count c.args.self.now c.loop.counter _ _ _ more given c.draw-element.ensures.after
          c.loop.invariant accepted,
      seeks-reached _ _ c.args.count c.args.self.now c.loop.counter _ _ _ more given c.draw-element.ensures.after
          c.loop.invariant accepted,
    )

pub loop-preserved : goal.loop-preserved
loop-preserved g c =
    let more : c.loop.counter < c.args.count = search (rules, c.loop-test.true) in
    seeks-next _ _ c.args.count c.args.self.now c.loop.counter _ _ _ more
    (ap Some (sym c.draw-element.ensures.value)) c.draw-element.ensures.after c.loop.invariant
    (below-false _ _ _ c.as_canonical_u64.ensures c.if-as_canonical_u64-bound.false)

pub returns : goal.returns
returns g c =
    let all : c.args.count ≤ c.loop.counter = search (rules, c.loop-test.false) in
    seeks-none _ _ c.args.count c.args.self.now c.loop.counter c.loop.self all c.loop.invariant
