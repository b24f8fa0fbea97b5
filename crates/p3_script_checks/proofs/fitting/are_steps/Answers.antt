use Rattle.std.proofs.Common.{refl, arith, ◌<◌, ◌≤◌, length}
use Rattle.p3_script_checks.proofs.Checking.{not_true, same-on, same-back, same-past}
use Rattle.p3_script_checks.proofs.fitting.are_steps.Goals as goal

pub returns-then-not-is_step : goal.returns-then-not-is_step
returns-then-not-is_step g c =
    let here : c.loop-i.i < length c.args.steps.now = c.loop-i-test.true in
    let there : c.loop-i.i < length c.args.expected.now = omega (arith, here, c.requires) in
    λ carry. (
      λ t. not_true t,
      λ all. not_true ((c.if-not-is_step.ensures carry).1 (same-on _ _ c.args.steps.now c.args.expected.now c.loop-i.i
          c.index-steps-i.result c.index-expected-i.result here c.index-steps-i.is there c.index-expected-i.is
          (c.loop-i.invariant.on all)).0),
    )

pub loop-i-preserved : goal.loop-i-preserved
loop-i-preserved g c =
    let here : c.loop-i.i < length c.args.steps.now = c.loop-i-test.true in
    let there : c.loop-i.i < length c.args.expected.now = omega (arith, here, c.requires) in
    record {
      back = λ carry rest. c.loop-i.invariant.back carry (same-back _ _ c.args.steps.now c.args.expected.now c.loop-i.i
          c.index-steps-i.result c.index-expected-i.result here c.index-steps-i.is there c.index-expected-i.is
          ((c.if-not-is_step.ensures carry).0 refl) rest);
      on = λ all. (same-on _ _ c.args.steps.now c.args.expected.now c.loop-i.i c.index-steps-i.result
          c.index-expected-i.result here c.index-steps-i.is there c.index-expected-i.is (c.loop-i.invariant.on all)).1;
    }

pub returns : goal.returns
returns g c =
    let past : length c.args.steps.now ≤ c.loop-i.i = c.loop-i-test.false in
    λ carry. (
      λ t. c.loop-i.invariant.back carry (same-past _ _ c.args.steps.now c.args.expected.now c.loop-i.i past
          (omega (arith, past, c.requires))),
      λ all. refl,
    )
