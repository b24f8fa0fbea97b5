use Rattle.std.proofs.{Common.{◌≡◌, ◌++◌, drop, take, length, ap, ◌∙◌, arith}, lemmas.List.length-take-le}
use Rattle.p3_sponge.specs.{Cells.counted_over, CellsLaws.counted_over-front}
use Rattle.p3_multi_field.{specs.MultiFieldCalls.packed_cells, proofs.Packing.length-packed_cells}
use Rattle.p3_multi_field.proofs.Pairs.{pair_over}
use Rattle.p3_multi_field.proofs.multi_field_challenger.packing.pack_over.Goals as goal

-- the rate packs the scalars, and the cell after it has their number
pub returns : goal.returns
returns g c =
    let outer = g.PF.PrimeCharacteristicRing.residues in
    let pair = pair_over g.F.PrimeCharacteristicRing.residues outer g.PF.FieldBridge in
    let cells = c.args.cells.now in
    let scalars = c.args.scalars.now in
    let rate = c.args.rate in
    let long : length (take rate cells) ≡ rate = length-take-le rate cells (omega (arith, c.requires)) in
    let front : c.pack_all.new.cells ≡ packed_cells pair rate scalars =
    c.pack_all.ensures ∙ ap (λ n. packed_cells pair n scalars) long in
    c.count.ensures
    ∙ ap (λ xs. let all = xs ++ drop rate cells in counted_over outer rate all (take rate all) (length scalars)) front
    ∙ counted_over-front outer cells (packed_cells pair rate scalars) rate (length scalars)
    (length-packed_cells pair rate scalars) c.requires.capacity
