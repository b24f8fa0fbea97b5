use Rattle.std.proofs.Common.{arith}
use Rattle.p3_sumcheck.proofs.TableSums.{total-more}
use Rattle.p3_sumcheck.proofs.table.sums_of_two.Goals as goal

pub loop-i-preserved : goal.loop-i-preserved
loop-i-preserved g c =
    let r = g.F.PrimeCharacteristicRing.residues in
    let laws = g.met.F.PrimeCharacteristicRing in
    record {
      one = total-more r laws.are_residues c.args.first.now c.loop-i.i c.index-first-i.result c.loop-i-test.true
          c.index-first-i.is c.loop-i.one c.add-one.result c.loop-i.invariant.one (laws.add_law _ _ _ c.add-one.ensures);
      other = total-more r laws.are_residues c.args.second.now c.loop-i.i c.index-second-i.result (omega arith)
          c.index-second-i.is c.loop-i.other c.add-other.result c.loop-i.invariant.other
          (laws.add_law _ _ _ c.add-other.ensures);
    }
