use Rattle.std.proofs.Common.{arith}
use Rattle.p3_sumcheck.proofs.Folding.{folds-more, folds-all}
use Rattle.p3_sumcheck.proofs.table.fold_onto.Goals as goal

pub loop-i-preserved : goal.loop-i-preserved
loop-i-preserved g c =
    let laws = g.met.F.PrimeCharacteristicRing in
    folds-more g.F.PrimeCharacteristicRing.residues c.args.x laws.are_residues c.args.low.now c.args.high.now
    c.loop-i.low c.loop-i.i c.index-low-i.result c.index-high-i.result c.value_at-value.result c.loop-i.total
    c.add-total.result (omega arith) c.requires c.loop-i.invariant c.index-low-i.is c.index-high-i.is
    c.value_at-value.ensures (laws.add_law _ _ _ c.add-total.ensures)

pub returns-clause-folded : goal.returns-clause-folded
returns-clause-folded g c =
    (folds-all g.F.PrimeCharacteristicRing.residues c.args.x c.args.low.now c.args.high.now c.loop-i.low c.loop-i.i
    c.loop-i.total c.requires (omega arith) c.loop-i.invariant).0

pub returns-clause-sum : goal.returns-clause-sum
returns-clause-sum g c =
    (folds-all g.F.PrimeCharacteristicRing.residues c.args.x c.args.low.now c.args.high.now c.loop-i.low c.loop-i.i
    c.loop-i.total c.requires (omega arith) c.loop-i.invariant).1
