use Rattle.std.proofs.{Common.{◌≡◌, set, slice_index_or, ap, ◌∙◌}, lemmas.List.get_or_default}
use Rattle.p3_field_core.specs.Residues.{plus}
use Rattle.p3_sponge.specs.CellsLaws.{counted_over-set}
use Rattle.p3_sponge.proofs.cells.count.Goals as goal

-- the cell after the rate is set, and the others stay
pub returns : goal.returns
returns g c =
    let r = g.F.PrimeCharacteristicRing.residues in
    let cells = c.args.cells.now in
    let rate = c.args.rate in
    let cell : c.index-cells-rate.result ≡ slice_index_or cells rate (r.of 0) =
    c.index-cells-rate.is ∙ get_or_default cells rate _ (r.of 0) c.requires in
    ap (set cells rate) (c.plus_number.ensures ∙ ap (λ x. plus r x c.args.n) cell)
    ∙ counted_over-set r cells rate c.args.n c.requires
