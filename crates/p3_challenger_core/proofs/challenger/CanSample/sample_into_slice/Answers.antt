use Rattle.std.proofs.{Common.{◌<◌, ◌≤◌, Some, length, ap, ◌∙◌, arith, rules}, lemmas.List.{take_more_set, take_all}}
use Rattle.p3_challenger_core.specs.DrawLaws.{drew-none, drew-as, drew-one_more, drew-values, drew-state, drew-stops}
use Rattle.p3_challenger_core.proofs.challenger.CanSample.sample_into_slice.Goals as goal

pub loop-i-init : goal.loop-i-init
loop-i-init g c = drew-none _ _ _

pub returns-in_err-values-clause-err : goal.returns-in_err-values-clause-err
returns-in_err-values-clause-err g c =
    let stops = drew-stops _ _ _ _ _ _ c.loop-i-test.true c.loop-i.invariant in
    search (rules, stops, c.in_err-values.ensures.err)

pub loop-i-preserved : goal.loop-i-preserved
loop-i-preserved g c =
    let in_range : c.loop-i.i < length c.loop-i.values = omega (arith, c.loop-i.auto.values) in
    drew-as _ _ _ _ _ _ _ _ (take_more_set _ _ _ in_range) c.in_ok-values.ensures.after
    (drew-one_more _ _ _ _ _ _ _ c.loop-i-test.true c.in_ok-values.ensures.drawn c.loop-i.invariant)

pub returns-clause-drawn : goal.returns-clause-drawn
returns-clause-drawn g c =
    let whole : length c.loop-i.values ≤ c.loop-i.i = omega (arith, c.loop-i.auto.values) in
    drew-values _ _ _ _ _ _ c.loop-i-test.false c.loop-i.invariant ∙ ap Some (take_all _ _ whole)

pub returns-clause-after : goal.returns-clause-after
returns-clause-after g c = drew-state _ _ _ _ _ _ c.loop-i-test.false c.loop-i.invariant
