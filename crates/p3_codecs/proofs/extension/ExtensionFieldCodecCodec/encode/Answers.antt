use Rattle.std.{proofs.Common.{◌≡◌, ◌<◌, ◌++◌, length, take, get_or, ap, ◌∙◌, subst}, specs.List.flat_map}
use Rattle.std.proofs.lemmas.Result.{err_from_is_err_and}
use Rattle.p3_codecs.proofs.Coefficients.{encoded-beginning}
use Rattle.p3_codecs.proofs.extension.ExtensionFieldCodecCodec.encode.Goals as goal

-- the coefficients before the refused one are encoded, and a beginning of that one
pub returns-in_err-encode-clause-left : goal.returns-in_err-encode-clause-left
returns-in_err-encode-clause-left g c =
    let p = err_from_is_err_and c.from_residual.result c.from_residual.ensures.1 in
    let wire = g.BaseCodec.Codec.encoding.wire in
    let xs = g.EF.BasedVectorSpace.coefficients c.args.value.now in
    let lent = c.as_basis_coefficients_slice-coefficients.ensures in
    let i = c.loop-coefficient.coefficient-index in
    let x = c.coefficient-item.result in
    let old = c.args.out.now.items in
    let here = c.loop-coefficient.out.items in
    let part = c.in_err-encode.ensures.left in
    let more : i < length xs = subst (λ ys. i < length ys) lent c.loop-coefficient-test.true in
    let so_far : here ≡ old ++ flat_map wire (take i xs) = c.loop-coefficient.invariant
    ∙ ap (λ ys. old ++ flat_map wire (take i ys)) lent in
    let is : x ≡ get_or xs i x = c.coefficient-item.is ∙ ap (λ ys. get_or ys i x) lent in
    rw p.1 (encoded-beginning wire xs old i x more here c.encode.new.out.items part.0 so_far
    (part.1 ∙ ap (λ y. here ++ take part.0 (wire y)) is))
