use Rattle.std.proofs.{Common.{◌≡◌, ◌⊎◌, arith, ap, subst, ◌∙◌, map, IfErr}, lemmas.Result.{IfOk-weaker}}
use Rattle.p3_fs_core.specs.{Interactions.step_of, declared.step.Kind.TheVariants.Protocol}
use Rattle.p3_fs_core.specs.declared.error.TranscriptError.TheVariants as error
use Rattle.p3_patterns.specs.PatternGrammar.{IsPattern, NamesFirstFault}
use Rattle.p3_script_checks.proofs.Checking.{made-on, made-all}
use Rattle.p3_script_checks.proofs.fitting.pattern.Goals as goal

pub loop-step-preserved : goal.loop-step-preserved
loop-step-preserved g c =
    record {
      made = ap (map step_of) c.push_reserved.ensures.items
          ∙ made-on _ step_of c.args.steps.now _ c.loop-step.step-index c.step-item.result _ c.loop-step-test.true
          c.step-item.is (c.interaction_of.ensures c.carriers_of-carriers.ensures) c.loop-step.invariant.made;
      count = omega (arith, c.push_reserved.ensures.len, c.loop-step.invariant.count);
      room = omega (arith, c.push_reserved.ensures.capacity, c.loop-step.invariant.room);
    }

pub returns-clause-ok : goal.returns-clause-ok
returns-clause-ok g c =
    IfOk-weaker c.new.result _ _ (λ pattern made. made.0 ∙ made-all _ step_of c.args.steps.now _ c.loop-step.step-index
    c.loop-step-test.false c.loop-step.invariant.made) c.new.ensures.ok

pub returns-clause-err : goal.returns-clause-err
returns-clause-err g c =
    subst (λ steps. IfErr c.new.result (λ e. NamesFirstFault steps e ⊎ (e ≡ error.OutOfMemory)))
    (made-all _ step_of c.args.steps.now _ c.loop-step.step-index c.loop-step-test.false c.loop-step.invariant.made)
    c.new.ensures.err

pub returns-clause-only : goal.returns-clause-only
returns-clause-only g c =
    subst (λ steps. IsPattern Protocol steps → IfErr c.new.result (λ e. e ≡ error.OutOfMemory))
    (made-all _ step_of c.args.steps.now _ c.loop-step.step-index c.loop-step-test.false c.loop-step.invariant.made)
    c.new.ensures.only
