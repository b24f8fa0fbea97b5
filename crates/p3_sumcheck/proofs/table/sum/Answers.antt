use Rattle.p3_sumcheck.proofs.TableSums.{total-more}
use Rattle.p3_sumcheck.proofs.table.sum.Goals as goal

pub loop-value-preserved : goal.loop-value-preserved
loop-value-preserved g c =
    let laws = g.met.F.PrimeCharacteristicRing in
    total-more g.F.PrimeCharacteristicRing.residues laws.are_residues c.args.values.now c.loop-value.value-index
    c.value-item.result c.loop-value-test.true c.value-item.is c.loop-value.total c.add-total.result
    c.loop-value.invariant (laws.add_law _ _ _ c.add-total.ensures)
