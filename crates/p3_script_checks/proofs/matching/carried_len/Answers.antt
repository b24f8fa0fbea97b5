use Rattle.std.proofs.Common.{arith, true, false}
use Rattle.p3_script_checks.proofs.Checking.{counted-on, counted-past}
use Rattle.p3_script_checks.proofs.matching.carried_len.Goals.{then-is_carried, else-is_carried}
use Rattle.p3_script_checks.proofs.matching.carried_len.Goals as goal

pub loop-step-preserved : goal.loop-step-preserved
loop-step-preserved g c =
    elim c.if-is_carried.branch [
      | then-is_carried w ↦ record {
        within = omega (arith, w.count-is, c.loop-step.invariant.within);
        counted = counted-on _ c.args.steps.now c.loop-step.step-index c.step-item.result true c.loop-step.count _ _
            c.loop-step-test.true c.step-item.is w.if-is_carried.ensures w.count-is c.loop-step.invariant.counted;
      }
      | else-is_carried w ↦ record {
        within = omega (arith, w.count-is, c.loop-step.invariant.within);
        counted = counted-on _ c.args.steps.now c.loop-step.step-index c.step-item.result false c.loop-step.count _ _
            c.loop-step-test.true c.step-item.is w.if-is_carried.ensures (omega (arith, w.count-is))
            c.loop-step.invariant.counted;
      }
    ]

pub returns : goal.returns
returns g c =
    counted-past _ c.args.steps.now c.loop-step.step-index _ _ c.loop-step-test.false c.loop-step.invariant.counted
