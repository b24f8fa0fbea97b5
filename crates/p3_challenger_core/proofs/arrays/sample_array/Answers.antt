use Rattle.std.proofs.{Common.{◌<◌, ◌≤◌, Some, length, ap, ◌∙◌, arith, rules}, Math.ListN.length-set}
use Rattle.std.proofs.lemmas.List.{take_more_set, take_all, take-replicate, length-replicate}
use Rattle.p3_challenger_core.specs.DrawLaws.{drew-none, drew-as, drew-one_more, drew-values, drew-state, drew-stops}
use Rattle.p3_challenger_core.proofs.arrays.sample_array.Goals as goal

pub returns-then-this-eq0-clause-drawn : goal.returns-then-this-eq0-clause-drawn
returns-then-this-eq0-clause-drawn g c =
    let none : g.row.N ≤ 0 = omega arith in
    rw (c.drawn_array.ensures, c.empty_array.ensures) (drew-values _ _ _ _ _ _ none (drew-none _ _ _))

pub returns-then-this-eq0-clause-after : goal.returns-then-this-eq0-clause-after
returns-then-this-eq0-clause-after g c =
    let none : g.row.N ≤ 0 = omega arith in
    rw c.drawn_array.ensures (drew-state _ _ _ _ _ _ none (drew-none _ _ _))

pub returns-in_err-values-clause-err : goal.returns-in_err-values-clause-err
returns-in_err-values-clause-err g c =
    let some : 0 < g.row.N = omega arith in
    let none = drew-none g.C.CanSample.sampling g.row.N (g.C.Sponge.state c.args.challenger.now) in
    let stops = drew-stops _ _ _ _ _ _ some none _ _ c.in_err-values.ensures.err in
    search (rules, stops)

pub loop-i-init : goal.loop-i-init
loop-i-init g c =
    let some : 0 < g.row.N = omega arith in
    record {
      drew = drew-as _ _ _ _ _ _ _ _ (take-replicate 1 _ _ some) c.in_ok-values.ensures.after
          (drew-one_more _ _ _ _ _ _ _ some c.in_ok-values.ensures.drawn (drew-none _ _ _));
      long = length-replicate _ _;
    }

pub returns-in_err-values-2-clause-err : goal.returns-in_err-values-2-clause-err
returns-in_err-values-2-clause-err g c =
    let stops = drew-stops _ _ _ _ _ _ c.loop-i-test.true c.loop-i.invariant.drew _ _ c.in_err-values-2.ensures.err in
    search (rules, stops)

pub loop-i-preserved : goal.loop-i-preserved
loop-i-preserved g c =
    let in_range : c.loop-i.i < length c.loop-i.values = omega (arith, c.loop-i.invariant.long) in
    record {
      drew = drew-as _ _ _ _ _ _ _ _ (take_more_set _ _ _ in_range) c.in_ok-values-2.ensures.after
          (drew-one_more _ _ _ _ _ _ _ c.loop-i-test.true c.in_ok-values-2.ensures.drawn c.loop-i.invariant.drew);
      long = length-set _ _ _ ∙ c.loop-i.invariant.long;
    }

pub returns-clause-drawn : goal.returns-clause-drawn
returns-clause-drawn g c =
    let whole : length c.loop-i.values ≤ c.loop-i.i = omega (arith, c.loop-i.invariant.long) in
    rw c.drawn_array-2.ensures
    (drew-values _ _ _ _ _ _ c.loop-i-test.false c.loop-i.invariant.drew ∙ ap Some (take_all _ _ whole))

pub returns-clause-after : goal.returns-clause-after
returns-clause-after g c =
    rw c.drawn_array-2.ensures (drew-state _ _ _ _ _ _ c.loop-i-test.false c.loop-i.invariant.drew)
