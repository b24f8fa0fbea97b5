use Rattle.std.proofs.Common.{refl}
use Rattle.p3_script_checks.proofs.Checking.{not_true, all-on, all-back, all-past}
use Rattle.p3_script_checks.proofs.admission.admitted.Goals as goal

pub loop-step-init : goal.loop-step-init
loop-step-init g c = record { back = λ all. all; on = λ all. all }

pub loop-step-preserved : goal.loop-step-preserved
loop-step-preserved g c =
    record {
      back = λ rest. c.loop-step.invariant.back (all-back _ c.args.steps.now c.loop-step.step-index c.step-item.result
          c.loop-step-test.true c.step-item.is (c.if-not-step_admitted.ensures.0 refl) rest);
      on = λ all. (all-on _ c.args.steps.now c.loop-step.step-index c.step-item.result c.loop-step-test.true
          c.step-item.is (c.loop-step.invariant.on all)).1;
    }

pub returns-then-not-step_admitted : goal.returns-then-not-step_admitted
returns-then-not-step_admitted g c = (
  λ t. not_true t,
  λ all. not_true (c.if-not-step_admitted.ensures.1 (all-on _ c.args.steps.now c.loop-step.step-index
      c.step-item.result c.loop-step-test.true c.step-item.is (c.loop-step.invariant.on all)).0),
)

pub returns : goal.returns
returns g c = (
  λ t. c.loop-step.invariant.back (all-past _ c.args.steps.now c.loop-step.step-index c.loop-step-test.false),
  λ all. refl,
)
