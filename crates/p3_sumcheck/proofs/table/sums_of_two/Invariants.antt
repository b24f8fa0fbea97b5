use Rattle.std.proofs.Common.{◌≡◌, take}
use Rattle.p3_sumcheck.specs.Tables.{total}
use Rattle.p3_sumcheck.proofs.table.sums_of_two.Given as goal

abbrev pub invariant-loop-i : goal.invariant-loop-i
invariant-loop-i g l =
    let r = g.F.PrimeCharacteristicRing.residues in
    record { one : l.one ≡ total r (take l.i l.first); other : l.other ≡ total r (take l.i l.second) }
