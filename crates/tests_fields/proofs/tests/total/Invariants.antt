use Rattle.std.proofs.Common.{◌≡◌, ◌%◌, take, sum_by}
use Rattle.tests_fields.proofs.tests.total.Given as goal

abbrev pub invariant-loop-value : goal.invariant-loop-value
invariant-loop-value g l =
    let r = g.F.PrimeCharacteristicRing.residues in
    r.number l.total ≡ sum_by r.number (take l.value-index l.values) % r.order
