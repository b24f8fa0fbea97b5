use Rattle.std.proofs.Common.{rules, refl, arith, ◌<◌, ◌≤◌, ◌≡◌, length, eq-eqb, eqb-true}
use Rattle.p3_script.specs.Scripts.{value_sent}
use Rattle.p3_script_checks.proofs.Checking.{not_true, handed-on, handed-back, handed-none, passed-on, passed-back, ended, none-left}
use Rattle.p3_script_checks.proofs.matching.sent_matches.Goals.{then-is_sent+in-Some, else-is_sent}
use Rattle.p3_script_checks.proofs.matching.sent_matches.Goals as goal

pub returns-in_default : goal.returns-in_default
returns-in_default g c =
    let more : c.loop-step.at < length c.args.sent.now = search rules in (
      λ t. not_true t,
      λ all. not_true (c.if-is_handed.ensures.1 (handed-on _ _ value_sent c.args.steps.now c.args.sent.now
          c.loop-step.step-index c.loop-step.at c.step-item.result c.loop-step-test.true c.step-item.is
          c.in-Some.value.now more c.in-Some.ensures.lookup.1 c.if-is_sent.ensures (c.loop-step.invariant.on all)).0),
    )

pub returns-in_default-2 : goal.returns-in_default-2
returns-in_default-2 g c =
    let past : length c.args.sent.now ≤ c.loop-step.at = search rules in (
      λ t. not_true t,
      λ all. absurd (handed-none _ _ value_sent c.args.steps.now c.args.sent.now c.loop-step.step-index c.loop-step.at
          c.step-item.result c.loop-step-test.true c.step-item.is c.if-is_sent.ensures past (c.loop-step.invariant.on all)),
    )

pub loop-step-preserved : goal.loop-step-preserved
loop-step-preserved g c =
    elim c.if-is_sent.branch [
      | then-is_sent+in-Some w ↦
          let more : c.loop-step.at < length c.args.sent.now = search rules in
          rw w.at-is (record {
            within = omega (arith, more);
            back = λ rest. c.loop-step.invariant.back (handed-back _ _ value_sent c.args.steps.now c.args.sent.now
                c.loop-step.step-index c.loop-step.at c.step-item.result c.loop-step-test.true c.step-item.is
                w.in-Some.value.now more w.in-Some.ensures.lookup.1 w.if-is_sent.ensures (w.if-is_handed.ensures.0 refl)
                rest);
            on = λ all. (handed-on _ _ value_sent c.args.steps.now c.args.sent.now c.loop-step.step-index c.loop-step.at
                c.step-item.result c.loop-step-test.true c.step-item.is w.in-Some.value.now more
                w.in-Some.ensures.lookup.1 w.if-is_sent.ensures (c.loop-step.invariant.on all)).1;
          })
      | else-is_sent w ↦
          rw w.at-is (record {
            within = c.loop-step.invariant.within;
            back = λ rest. c.loop-step.invariant.back (passed-back _ _ value_sent c.args.steps.now c.args.sent.now
                c.loop-step.step-index c.loop-step.at c.step-item.result c.loop-step-test.true c.step-item.is
                w.if-is_sent.ensures rest);
            on = λ all. passed-on _ _ value_sent c.args.steps.now c.args.sent.now c.loop-step.step-index c.loop-step.at
                c.step-item.result c.loop-step-test.true c.step-item.is w.if-is_sent.ensures (c.loop-step.invariant.on all);
          })
    ]

pub returns : goal.returns
returns g c = (
  λ t.
      let same : c.loop-step.at ≡ length c.args.sent.now = eqb-true c.loop-step.at (length c.args.sent.now) t in
      let past : length c.args.sent.now ≤ c.loop-step.at = omega (arith, same) in
      c.loop-step.invariant.back (ended _ _ value_sent c.args.steps.now c.args.sent.now c.loop-step.step-index
      c.loop-step.at c.loop-step-test.false past),
  λ all.
      let past : length c.args.sent.now ≤ c.loop-step.at = none-left _ _ value_sent c.args.steps.now c.args.sent.now
      c.loop-step.step-index c.loop-step.at c.loop-step-test.false (c.loop-step.invariant.on all) in
      let same : c.loop-step.at ≡ length c.args.sent.now = omega (arith, past, c.loop-step.invariant.within) in
      eq-eqb c.loop-step.at (length c.args.sent.now) same,
)
