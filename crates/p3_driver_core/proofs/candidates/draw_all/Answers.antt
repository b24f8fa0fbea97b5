use Rattle.std.proofs.Common.{refl, arith, rules, inr, ap, map}
use Rattle.p3_challenger_core.specs.DrawLaws.{drew-none, drew-as, drew-values, drew-state, drew-stops}
use Rattle.p3_driver_core.{specs.Bound.bound_value, proofs.BoundLists.drew-bound}
use Rattle.p3_driver_core.proofs.candidates.draw_all.Goals as goal

pub loop-init : goal.loop-init
loop-init g c =
    let d = g.D.Candidates.sampling c.args.candidates.now in
    let start = g.C.Sponge.state c.args.challenger.now in
    record {
      drew = drew-as d c.args.n start _ _ _ start start (ap (map bound_value) c.in_ok-bounds.ensures.items) refl
          (drew-none d c.args.n start);
      count = c.in_ok-bounds.ensures.len;
      room = c.in_ok-bounds.ensures.exact;
    }

pub returns-in_err-draw-clause-err : goal.returns-in_err-draw-clause-err
returns-in_err-draw-clause-err g c =
    let stops = drew-stops _ _ _ _ c.loop.counter _ c.loop-test.true c.loop.invariant.drew
    c.in_err-draw.field-0.0 (g.C.Sponge.state c.draw.new.challenger) c.in_err-draw.ensures.err in
    search (rules, stops, inr)

pub push_reserved-requires : goal.push_reserved-requires
push_reserved-requires g c = omega (arith, c.loop.invariant.count, c.loop.invariant.room, c.loop-test.true)

pub loop-preserved : goal.loop-preserved
loop-preserved g c = record {
  drew = drew-bound _ _ _ _ _ c.loop.counter _ _ _ _ c.loop-test.true c.in_ok-draw.ensures.drawn
      c.in_ok-draw.ensures.after c.bind.ensures c.push_reserved.ensures.items c.loop.invariant.drew;
  count = cc;
  room = cc;
}

pub returns-clause-drawn : goal.returns-clause-drawn
returns-clause-drawn g c = drew-values _ _ _ _ c.loop.counter _ c.loop-test.false c.loop.invariant.drew

pub returns-clause-after : goal.returns-clause-after
returns-clause-after g c = drew-state _ _ _ _ c.loop.counter _ c.loop-test.false c.loop.invariant.drew
