use Rattle.p3_sumcheck.proofs.Folding.{FoldsTo}
use Rattle.p3_sumcheck.proofs.table.fold_onto.Given as goal

abbrev pub invariant-loop-i : goal.invariant-loop-i
invariant-loop-i g l = FoldsTo g.F.PrimeCharacteristicRing.residues l.x l.initial.low l.high l.i l.low l.total
