use Rattle.std.proofs.Common.{◌+◌, ◌*◌, ◌<◌, ◌≤◌, length, take, drop, Ok, Err, sym, ap, ◌∙◌, subst, arith}
use Rattle.std.proofs.lemmas.{List.take_more_set, Result.err_from_is_err_and}
use Rattle.p3_codecs.{specs.ExtensionLaws.after_coefficient, proofs.Coefficients.decoded-here}
use Rattle.p3_codecs.proofs.Coefficients.{HasRead, has_read-next, has_read-stops, has_read-all, whole-element}
use Rattle.p3_fs_core.specs.BigEndianLaws.{AreBytes-drop}
use Rattle.p3_codecs.proofs.extension.decode_coefficients.Goals as goal

-- a coefficient is none
pub returns-in_err-decode : goal.returns-in_err-decode
returns-in_err-decode g c =
    let p = err_from_is_err_and c.from_residual.result c.from_residual.ensures.1 in
    let codec = g.BaseCodec.Codec in
    let space = g.EF.BasedVectorSpace in
    let i = c.loop-i.i in
    let more : i < space.DIMENSION = omega (arith, c.loop-i-test.true, c.DIMENSION-i-end.ensures) in
    rw (p.1, p.2) (has_read-stops codec.encoding.read codec.encoding.width space.DIMENSION c.args.bytes.now
    space.element (take i (space.coefficients c.loop-i.element)) i c.in_err-decode.field-0.0 more
    (decoded-here codec.encoding.read codec.encoding.width c.wire_len-width.result i c.args.bytes.now
    (Err c.in_err-decode.field-0.0) c.wire_len-width.ensures c.in_err-decode.ensures.exact) c.loop-i.invariant)

-- a coefficient more is read
pub loop-i-preserved : goal.loop-i-preserved
loop-i-preserved g c =
    let codec = g.BaseCodec.Codec in
    let laws = g.met.BaseCodec.Codec in
    let space = g.EF.BasedVectorSpace in
    let bytes = c.args.bytes.now in
    let i = c.loop-i.i in
    let xs = space.coefficients c.loop-i.element in
    let x = c.in_ok-decode.field-0 in
    let here = drop (i * codec.encoding.width) bytes in
    let more : i < space.DIMENSION = omega (arith, c.loop-i-test.true, c.DIMENSION-i-end.ensures) in
    let in_range : i < length xs = omega (
      arith,
      more,
      g.met.EF.BasedVectorSpace.length_coefficients
          c.loop-i.element,
    ) in
    let are_bytes = AreBytes-drop (i * codec.encoding.width) bytes (λ j. omega (arith, c.type_inv.bytes j)) in
    let next = has_read-next codec.encoding.read codec.encoding.width space.DIMENSION bytes (take i xs) i x more
    (λ rest. after_coefficient codec.encoding.wire codec.encoding.read codec.encoding.width
    laws.is_codec.encodes.fixed_width laws.is_codec.encodes.only_reads x here rest are_bytes)
    (decoded-here codec.encoding.read codec.encoding.width c.wire_len-width.result i bytes (Ok x)
    c.wire_len-width.ensures c.in_ok-decode.ensures.exact) c.loop-i.invariant in
    subst (λ ys. HasRead codec.encoding.read codec.encoding.width space.DIMENSION bytes ys (i + 1))
    (sym (ap (take (i + 1)) c.with_coefficient-element.ensures ∙ take_more_set xs i x in_range)) next

pub returns : goal.returns
returns g c =
    let codec = g.BaseCodec.Codec in
    let space = g.EF.BasedVectorSpace in
    let met = g.met.EF.BasedVectorSpace in
    let i = c.loop-i.i in
    let all : space.DIMENSION ≤ i = omega (arith, c.loop-i-test.false, c.DIMENSION-i-end.ensures) in
    has_read-all codec.encoding.read codec.encoding.width space.DIMENSION c.args.bytes.now space.element
    (take i (space.coefficients c.loop-i.element)) i c.loop-i.element all
    (sym (whole-element space.DIMENSION space.coefficients space.element met.length_coefficients met.same_coefficients
    met.coefficients_element c.loop-i.element i all)) c.loop-i.invariant
