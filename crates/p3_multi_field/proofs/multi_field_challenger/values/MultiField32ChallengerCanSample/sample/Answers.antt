use Rattle.std.proofs.Common.{◌<◌, ◌≤◌, Some, take, ap, ◌∙◌, arith}
use Rattle.p3_sponge.specs.DrawingLaws.{has_drawn-none, has_drawn-next, has_drawn-values, has_drawn-state}
use Rattle.p3_multi_field.proofs.multi_field_challenger.values.MultiField32ChallengerCanSample.sample.Goals as goal

pub loop-i-init : goal.loop-i-init
loop-i-init g c = has_drawn-none _ _ g.A.BasedVectorSpace.DIMENSION c.args.self.now

-- the next coefficient is drawn
pub loop-i-preserved : goal.loop-i-preserved
loop-i-preserved g c =
    let space = g.A.BasedVectorSpace in
    let i = c.loop-i.i in
    let xs = space.coefficients c.loop-i.element in
    let more : i < space.DIMENSION = omega (arith, c.loop-i-test.true, c.DIMENSION-i-end.ensures) in
    let long = g.met.A.BasedVectorSpace.length_coefficients c.loop-i.element in
    has_drawn-next _ _ space.DIMENSION c.args.self.now xs (space.coefficients c.with_coefficient-element.result) i
    c.loop-i.self c.draw.new.self c.draw.result more long c.draw.ensures.value c.draw.ensures.after
    c.with_coefficient-element.ensures c.loop-i.invariant

-- an element is its coefficients
pub returns-clause-drawn : goal.returns-clause-drawn
returns-clause-drawn g c =
    let space = g.A.BasedVectorSpace in
    let laws = g.met.A.BasedVectorSpace in
    let element = c.loop-i.element in
    let xs = space.coefficients element in
    let long = laws.length_coefficients element in
    let all : space.DIMENSION ≤ c.loop-i.i = omega (arith, c.loop-i-test.false, c.DIMENSION-i-end.ensures) in
    let values = has_drawn-values _ _ space.DIMENSION c.args.self.now xs c.loop-i.i c.loop-i.self all long
    c.loop-i.invariant in
    ap Some (ap space.element values
    ∙ laws.same_coefficients (space.element xs) element (laws.coefficients_element xs long))

pub returns-clause-after : goal.returns-clause-after
returns-clause-after g c =
    let space = g.A.BasedVectorSpace in
    let all : space.DIMENSION ≤ c.loop-i.i = omega (arith, c.loop-i-test.false, c.DIMENSION-i-end.ensures) in
    let drawn = take c.loop-i.i (space.coefficients c.loop-i.element) in
    has_drawn-state _ _ space.DIMENSION c.args.self.now drawn c.loop-i.i c.loop-i.self all c.loop-i.invariant
