use Rattle.std.proofs.Common.{◌≡◌, ◌+◌, ◌-◌, ◌<◌, ◌≤◌, Some, [], ◌∷◌, ◌++◌, length, take, ap, ◌∙◌, arith, rules}
use Rattle.p3_challenger_core.specs.DrawLaws.{drew-as, drew-one_more, drew-values, drew-state, drew-stops}
use Rattle.std.{proofs.lemmas.List.{take_more_set, take_all}, specs.Option.option_map}
use Rattle.p3_serializing.specs.{SerializingState.{state_of, element_drawn}, SerializingStateLaws.refused-space_element}
use Rattle.p3_serializing.proofs.challenger.draws.SerializingChallengerCanSample.sample.Goals as goal

-- the coefficients before the refused one are drawn
pub returns-in_err-draw-clause-err : goal.returns-in_err-draw-clause-err
returns-in_err-draw-clause-err g c =
    let m = g.Inner.CanSample in
    let r = g.F.PrimeCharacteristicRing.residues in
    let d = element_drawn m.sampling g.row.BYTES r in
    let state = state_of g.Inner.Sponge.state in
    let space = g.A.BasedVectorSpace in
    let i = c.loop-i.i in
    let e = c.in_err-draw.field-0.0 in
    let start = state c.args.self.now in
    let there = state c.draw.new.self in
    let more : i < space.DIMENSION = omega (arith, c.loop-i-test.true, c.DIMENSION-i-end.ensures) in
    let stops = drew-stops d space.DIMENSION start (take i (space.coefficients c.loop-i.element)) i
    (state c.loop-i.self) more c.loop-i.invariant e there c.in_err-draw.ensures in
    let whole = refused-space_element g.Inner.Sponge.next m.sampling g.met.Inner.CanSample.samples g.row.BYTES r
    space.DIMENSION space.element e start there stops in
    search (rules, whole)

-- the next coefficient is drawn
pub loop-i-preserved : goal.loop-i-preserved
loop-i-preserved g c =
    let d = element_drawn g.Inner.CanSample.sampling g.row.BYTES g.F.PrimeCharacteristicRing.residues in
    let state = state_of g.Inner.Sponge.state in
    let space = g.A.BasedVectorSpace in
    let i = c.loop-i.i in
    let xs = space.coefficients c.loop-i.element in
    let x = c.in_ok-draw.field-0 in
    let start = state c.args.self.now in
    let more : i < space.DIMENSION = omega (arith, c.loop-i-test.true, c.DIMENSION-i-end.ensures) in
    let in_range : i < length xs = omega (arith, more, g.met.A.BasedVectorSpace.length_coefficients c.loop-i.element) in
    let next = drew-one_more d space.DIMENSION start (take i xs) i (state c.loop-i.self) x more
    c.in_ok-draw.ensures.0 c.loop-i.invariant in
    drew-as d space.DIMENSION start (take i xs ++ x ∷ [])
    (take (i + 1) (space.coefficients c.with_coefficient-element.result)) (space.DIMENSION - (i + 1))
    (d.after (state c.loop-i.self)) (state c.draw.new.self)
    (ap (take (i + 1)) c.with_coefficient-element.ensures ∙ take_more_set xs i x in_range)
    c.in_ok-draw.ensures.1 next

-- an element is its coefficients
pub returns-clause-drawn : goal.returns-clause-drawn
returns-clause-drawn g c =
    let d = element_drawn g.Inner.CanSample.sampling g.row.BYTES g.F.PrimeCharacteristicRing.residues in
    let state = state_of g.Inner.Sponge.state in
    let space = g.A.BasedVectorSpace in
    let laws = g.met.A.BasedVectorSpace in
    let i = c.loop-i.i in
    let x = c.loop-i.element in
    let xs = space.coefficients x in
    let all : space.DIMENSION ≤ i = omega (arith, c.loop-i-test.false, c.DIMENSION-i-end.ensures) in
    let whole : length xs ≤ i = omega (arith, all, laws.length_coefficients x) in
    let drawn = drew-values d space.DIMENSION (state c.args.self.now) (take i xs) i (state c.loop-i.self) all
    c.loop-i.invariant
    ∙ ap Some (take_all i xs whole) in
    let same : space.element xs ≡ x =
    laws.same_coefficients (space.element xs) x (laws.coefficients_element xs (laws.length_coefficients x)) in
    ap (option_map space.element) drawn ∙ ap Some same

pub returns-clause-after : goal.returns-clause-after
returns-clause-after g c =
    let all : g.A.BasedVectorSpace.DIMENSION ≤ c.loop-i.i =
    omega (arith, c.loop-i-test.false, c.DIMENSION-i-end.ensures) in
    drew-state _ _ _ _ c.loop-i.i _ all c.loop-i.invariant
