use Rattle.std.proofs.Common.{arith, inl, inr, refl, ◌<◌, ◌≤◌, length}
use Rattle.p3_runs.specs.{CarriedLaws.proved-count, RefusalLaws.start-never, Verdicts.script_under}
use Rattle.p3_runs.specs.ProvingLaws.{proves-start, proves-next, proves-end, proves-not_ended}
use Rattle.p3_script_prover.proofs.NextLaws.{part-on, next-admitted, next-on, next-refused, next-never, end-never}
use Rattle.p3_script_prover.proofs.proving.prove.Goals as goal

pub loop-i-init : goal.loop-i-init
loop-i-init g c =
    rw (c.new-2.ensures.items, c.new-3.ensures.items, c.new-4.ensures.items)
    (proves-start _ _ _ _ _ c.in-Ok.ensures.ok c.in-Ok.ensures.fits c.requires.handed)

pub play_next-requires-clause-admitted : goal.play_next-requires-clause-admitted
play_next-requires-clause-admitted g c =
    let here : c.loop-i.i < length c.args.steps.now = omega arith in
    next-admitted _ _ _ _ c.loop-i.i _ _ _ _ _ _ c.loop-i.invariant
    (part-on c.args.steps.now c.loop-i.i c.index-steps-i.result here c.index-steps-i.is) c.requires.admitted

pub play_next-requires-clause-handed : goal.play_next-requires-clause-handed
play_next-requires-clause-handed g c =
    let here : c.loop-i.i < length c.args.steps.now = omega arith in
    proves-next _ _ _ _ c.loop-i.i _ _ _ _ _ _
    (part-on c.args.steps.now c.loop-i.i c.index-steps-i.result here c.index-steps-i.is) c.loop-i.invariant

pub loop-i-preserved : goal.loop-i-preserved
loop-i-preserved g c =
    let here : c.loop-i.i < length c.args.steps.now = omega arith in
    next-on _ _ _ _ c.loop-i.i _ _ _ _ _ _ _ _ _ _ _
    (part-on c.args.steps.now c.loop-i.i c.index-steps-i.result here c.index-steps-i.is) c.loop-i.invariant
    c.in_default.ensures.comes

pub returns-in-Err-clause-refused : goal.returns-in-Err-clause-refused
returns-in-Err-clause-refused g c = (
  inl (refl, c.in-Err.ensures.err),
  λ other values run. start-never _ _ c.in-Err.ensures.err other run.finished.seed_fits,
)

pub returns-in-Err-play_next-clause-refused : goal.returns-in-Err-play_next-clause-refused
returns-in-Err-play_next-clause-refused g c =
    let here : c.loop-i.i < length c.args.steps.now = omega arith in
    let next = part-on c.args.steps.now c.loop-i.i c.index-steps-i.result here c.index-steps-i.is in (
      next-refused _ _ _ _ _ c.loop-i.i _ _ _ _ _ _ _ _ next c.loop-i.invariant c.in-Err-play_next.ensures.comes,
      next-never _ _ _ _ _ c.loop-i.i _ _ _ _ _ _ _ _ c.loop-i.invariant c.script_steps_are_lawful.ensures.determined next
          c.in-Err-play_next.ensures.comes c.script_steps_are_lawful.ensures.sent c.requires.admitted,
    )

pub returns-in-Err-finish-clause-refused : goal.returns-in-Err-finish-clause-refused
returns-in-Err-finish-clause-refused g c =
    let past : length c.args.steps.now ≤ c.loop-i.i = omega arith in (
      inr (inr (proves-not_ended _ _ _ _ c.loop-i.i _ _ _ _ _ past c.loop-i.invariant _ c.in-Err-finish.ensures.err)),
      end-never _ _ _ _ _ c.loop-i.i _ _ _ _ _ _ c.loop-i.invariant c.script_steps_are_lawful.ensures.determined past
          c.in-Err-finish.ensures.err c.script_steps_are_lawful.ensures.sent c.requires.admitted,
    )

pub returns-in-Ok-finish-clause-proved : goal.returns-in-Ok-finish-clause-proved
returns-in-Ok-finish-clause-proved g c =
    let past : length c.args.steps.now ≤ c.loop-i.i = omega arith in
    let outcome = proves-end _ _ _ _ c.loop-i.i _ _ _ _ _ past c.loop-i.invariant _ _ c.in-Ok-finish.ensures.ok.0
    c.in-Ok-finish.ensures.ok.1 c.in-Ok-finish.ensures.ok.2 in (
      record { values = c.loop-i.invariant.values; outcome = outcome },
      proved-count _ _ (script_under _ _ _) _ _ _ _ _ _ (record { values = c.loop-i.invariant.values; outcome = outcome }),
    )
