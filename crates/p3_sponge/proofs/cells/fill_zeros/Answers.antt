use Rattle.std.proofs.Common.{◌<◌, set, length, ◌∙◌, arith}
use Rattle.p3_sponge.proofs.Overwriting.{filled_more}
use Rattle.p3_sponge.proofs.cells.fill_zeros.Goals as goal

-- the next cell is zero
pub loop-i-preserved : goal.loop-i-preserved
loop-i-preserved g c =
    let y = g.F.PrimeCharacteristicRing.residues.of 0 in
    let n = c.loop-i.i in
    let below : n < length c.args.cells.now = omega arith in
    (λ i. set (c.loop-i.invariant i) n (c.zero.ensures i)) ∙ filled_more c.args.cells.now n y below
