use Rattle.std.proofs.Common.{◌+◌, refl, ◌∙◌, rules, inr, ap}
use Rattle.p3_challenger_core.specs.DrawLaws.{drew-none, drew-as, drew-one_more, drew-values, drew-state, drew-stops}
use Rattle.p3_challenger_core.proofs.challenger.CanSample.sample_vec.Goals as goal

pub loop-init : goal.loop-init
loop-init g c =
    record {
      drew = drew-as _ _ _ _ _ _ _ _ c.in_ok-values.ensures.items refl (drew-none _ _ _);
      count = c.in_ok-values.ensures.len;
      room = c.in_ok-values.ensures.exact;
    }

pub returns-in_err-sample-clause-err : goal.returns-in_err-sample-clause-err
returns-in_err-sample-clause-err g c =
    let stops = drew-stops _ _ _ _ _ _ c.loop-test.true c.loop.invariant.drew _ _ c.in_err-sample.ensures.err in
    search (rules, stops, inr)

pub loop-preserved : goal.loop-preserved
loop-preserved g c =
    record {
      drew = drew-as _ _ _ _ _ _ _ _ c.push_reserved.ensures.items c.in_ok-sample.ensures.after
          (drew-one_more _ _ _ _ _ _ _ c.loop-test.true c.in_ok-sample.ensures.drawn c.loop.invariant.drew);
      count = c.push_reserved.ensures.len ∙ ap (λ k. k + 1) c.loop.invariant.count;
      room = c.push_reserved.ensures.capacity ∙ c.loop.invariant.room;
    }

pub returns-clause-drawn : goal.returns-clause-drawn
returns-clause-drawn g c = drew-values _ _ _ _ _ _ c.loop-test.false c.loop.invariant.drew

pub returns-clause-after : goal.returns-clause-after
returns-clause-after g c = drew-state _ _ _ _ _ _ c.loop-test.false c.loop.invariant.drew
