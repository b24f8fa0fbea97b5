use Rattle.std.proofs.Common.{◌≡◌, ◌-◌, ◌++◌, drop, take, replicate, length, length-append, rules, ap, ◌∙◌, arith}
use Rattle.std.proofs.lemmas.List.{length-replicate}
use Rattle.p3_sponge.{specs.Cells.counted_over, specs.CellsLaws.counted_over-front, proofs.Overwriting.written}
use Rattle.p3_sponge.proofs.cells.overwrite.Goals as goal

-- the front is the block and zeros, and the cell after the rate has the count
pub returns : goal.returns
returns g c =
    let r = g.F.PrimeCharacteristicRing.residues in
    let cells = c.args.cells.now in
    let block = c.args.block.now in
    let rate = c.args.rate in
    let n = length block in
    let zeros = replicate (rate - n) (r.of 0) in
    let filled : c.fill_zeros.new.cells ≡ zeros = search rules in
    let after : c.copy_from_slice.new.self ≡ block = c.copy_from_slice.ensures.after in
    let long : length (block ++ zeros) ≡ rate =
    omega (arith, c.requires, length-append block zeros, length-replicate (rate - n) (r.of 0)) in
    let all : _ ≡ (block ++ zeros) ++ drop rate cells =
    (λ i. take n (after i ++ drop n cells) ++ (filled i ++ drop (rate - n) (drop n (after i ++ drop n cells))))
    ∙ written cells block zeros rate c.requires.fits in
    c.count.ensures
    ∙ ap (λ front. counted_over r rate front (take rate front) n) all
    ∙ counted_over-front r cells (block ++ zeros) rate n long c.requires.capacity
