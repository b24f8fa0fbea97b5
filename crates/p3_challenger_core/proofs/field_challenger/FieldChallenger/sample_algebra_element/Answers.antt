use Rattle.std.proofs.Common.{◌+◌, ◌<◌, ◌≤◌, Some, length, take, ap, ◌∙◌, arith, rules}
use Rattle.std.proofs.lemmas.List.{take_more_set, take_all}
use Rattle.p3_challenger_core.specs.DrawLaws.{drew-as, drew-one_more, drew-values, drew-state, drew-stops}
use Rattle.p3_challenger_core.proofs.field_challenger.FieldChallenger.sample_algebra_element.Goals as goal

pub returns-in_err-sample-clause-err : goal.returns-in_err-sample-clause-err
returns-in_err-sample-clause-err g c =
    let more : c.loop-i.i < g.A.BasedVectorSpace.DIMENSION = omega arith in
    let stops = drew-stops _ _ _ _ _ _ more c.loop-i.invariant in
    search (rules, stops, c.in_err-sample.ensures.err)

-- the next coefficient is drawn
pub loop-i-preserved : goal.loop-i-preserved
loop-i-preserved g c =
    let space = g.A.BasedVectorSpace in
    let more : c.loop-i.i < space.DIMENSION = omega arith in
    let in_range : c.loop-i.i < length (space.coefficients c.loop-i.element) =
    omega (arith, more, g.met.A.BasedVectorSpace.length_coefficients c.loop-i.element) in
    drew-as _ _ _ _ _ _ _ _
    (ap (take (c.loop-i.i + 1)) c.with_coefficient-element.ensures ∙ take_more_set _ _ _ in_range)
    c.in_ok-sample.ensures.after
    (drew-one_more _ _ _ _ _ _ _ more c.in_ok-sample.ensures.drawn c.loop-i.invariant)

pub returns-clause-drawn : goal.returns-clause-drawn
returns-clause-drawn g c =
    let space = g.A.BasedVectorSpace in
    let all : space.DIMENSION ≤ c.loop-i.i = omega arith in
    let whole : length (space.coefficients c.loop-i.element) ≤ c.loop-i.i =
    omega (arith, all, g.met.A.BasedVectorSpace.length_coefficients c.loop-i.element) in
    drew-values _ _ _ _ _ _ all c.loop-i.invariant ∙ ap Some (take_all _ _ whole)

pub returns-clause-after : goal.returns-clause-after
returns-clause-after g c =
    let all : g.A.BasedVectorSpace.DIMENSION ≤ c.loop-i.i = omega arith in
    drew-state _ _ _ _ _ _ all c.loop-i.invariant
