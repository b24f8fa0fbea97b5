use Rattle.std.proofs.Common.{◌+◌, ◌-◌, ◌<◌, ◌≤◌, Some, [], ◌∷◌, ◌++◌, length, take, ap, ◌∙◌, arith}
use Rattle.std.{specs.Option.option_map, proofs.lemmas.List.take_more_set, proofs.lemmas.Result.err_from_is_err_and}
use Rattle.p3_challenger_core.specs.DrawLaws.{drew-as, drew-one_more, drew-values, drew-state, drew-stops}
use Rattle.p3_challenger_core.specs.SamplingLaws.{refused-in_row}
use Rattle.p3_codecs.proofs.Coefficients.{whole-element}
use Rattle.p3_codecs.proofs.extension.ExtensionFieldCodecCodec.sample.Goals as goal

-- a coefficient is refused
pub returns-in_err-sample-clause-err : goal.returns-in_err-sample-clause-err
returns-in_err-sample-clause-err g c =
    let p = err_from_is_err_and c.from_residual.result c.from_residual.ensures.1 in
    let m = g.BaseCodec.Codec in
    let state = g.C.Sponge.state in
    let space = g.EF.BasedVectorSpace in
    let i = c.loop-i.i in
    let e = c.in_err-sample.field-0.0 in
    let start = state c.args.challenger.now in
    let end = state c.sample.new.challenger in
    let more : i < space.DIMENSION = omega (arith, c.loop-i-test.true, c.DIMENSION-i-end.ensures) in
    let stops = drew-stops m.sampling space.DIMENSION start (take i (space.coefficients c.loop-i.element)) i
    (state c.loop-i.challenger) more c.loop-i.invariant e end c.in_err-sample.ensures.err in
    rw (p.1, p.2) (refused-in_row g.C.Sponge.next m.sampling g.met.BaseCodec.Codec.is_codec.samples space.DIMENSION e
    start end stops)

-- the next coefficient is drawn
pub loop-i-preserved : goal.loop-i-preserved
loop-i-preserved g c =
    let m = g.BaseCodec.Codec in
    let state = g.C.Sponge.state in
    let space = g.EF.BasedVectorSpace in
    let i = c.loop-i.i in
    let xs = space.coefficients c.loop-i.element in
    let x = c.in_ok-sample.field-0 in
    let start = state c.args.challenger.now in
    let more : i < space.DIMENSION = omega (arith, c.loop-i-test.true, c.DIMENSION-i-end.ensures) in
    let in_range : i < length xs = omega (
      arith,
      more,
      g.met.EF.BasedVectorSpace.length_coefficients
          c.loop-i.element,
    ) in
    let next = drew-one_more m.sampling space.DIMENSION start (take i xs) i (state c.loop-i.challenger) x more
    c.in_ok-sample.ensures.drawn c.loop-i.invariant in
    drew-as m.sampling space.DIMENSION start (take i xs ++ x ∷ []) (take (i + 1)
    (space.coefficients c.with_coefficient-element.result)) (space.DIMENSION - (i + 1))
    (m.sampling.after (state c.loop-i.challenger)) (state c.sample.new.challenger)
    (ap (take (i + 1)) c.with_coefficient-element.ensures ∙ take_more_set xs i x in_range) c.in_ok-sample.ensures.after
    next

pub returns-clause-drawn : goal.returns-clause-drawn
returns-clause-drawn g c =
    let m = g.BaseCodec.Codec in
    let space = g.EF.BasedVectorSpace in
    let met = g.met.EF.BasedVectorSpace in
    let i = c.loop-i.i in
    let all : space.DIMENSION ≤ i = omega (arith, c.loop-i-test.false, c.DIMENSION-i-end.ensures) in
    ap (option_map space.element) (drew-values m.sampling space.DIMENSION (g.C.Sponge.state c.args.challenger.now)
    (take i (space.coefficients c.loop-i.element)) i (g.C.Sponge.state c.loop-i.challenger) all c.loop-i.invariant)
    ∙ ap Some (whole-element space.DIMENSION space.coefficients space.element met.length_coefficients
    met.same_coefficients met.coefficients_element c.loop-i.element i all)

pub returns-clause-after : goal.returns-clause-after
returns-clause-after g c =
    let m = g.BaseCodec.Codec in
    let space = g.EF.BasedVectorSpace in
    let i = c.loop-i.i in
    let all : space.DIMENSION ≤ i = omega (arith, c.loop-i-test.false, c.DIMENSION-i-end.ensures) in
    drew-state m.sampling space.DIMENSION (g.C.Sponge.state c.args.challenger.now)
    (take i (space.coefficients c.loop-i.element)) i (g.C.Sponge.state c.loop-i.challenger) all c.loop-i.invariant
