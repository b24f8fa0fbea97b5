use Rattle.std.proofs.{Common.{◌∷◌, ◌+◌, drop, sym, subst, ◌∙◌, add-one}, Math.Seq.drop-cons}
use Rattle.std.proofs.lemmas.Result.{err_from_is_err_and}
use Rattle.p3_drivers.proofs.Pieces.{Encoded, encoded-stops}
use Rattle.p3_drivers.proofs.writing.write_values.Goals as goal

-- the values before the refused one are encoded, and a beginning of that one
pub returns-in_err-encode-clause-left : goal.returns-in_err-encode-clause-left
returns-in_err-encode-clause-left g c =
    let p = err_from_is_err_and c.from_residual-in_err-encode.result c.from_residual-in_err-encode.ensures.1 in
    let wire = g.Cdc.Codec.encoding.wire in
    let xs = c.args.values.now in
    let i = c.loop-value.value-index in
    let x = c.value-item.result in
    let rest = drop (i + 1) xs in
    rw p.1 (encoded-stops wire c.args.narg.now.items xs c.loop-value.narg.items c.encode.new.out.items
    x rest c.in_err-encode.ensures.left (subst (λ ys. Encoded wire c.args.narg.now.items xs c.loop-value.narg.items ys)
    (drop-cons xs i x c.loop-value-test.true ∙ (λ j. sym c.value-item.is j ∷ drop (sym (add-one i) j) xs))
    c.loop-value.invariant))
