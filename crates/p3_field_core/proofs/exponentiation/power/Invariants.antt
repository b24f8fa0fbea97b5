use Rattle.std.proofs.Common.{◌≡◌, ◌*◌, ◌%◌, ◌^◌}
use Rattle.p3_field_core.proofs.exponentiation.power.Given as goal

-- the product and what is left of the power make the power
abbrev pub invariant-loop-left : goal.invariant-loop-left
invariant-loop-left g l =
    let r = g.R.PrimeCharacteristicRing.residues in
    (r.number l.product * r.number l.square ^ l.left) % r.order ≡ (r.number l.fn.base ^ l.fn.exponent) % r.order

abbrev pub decreases-loop-left : goal.decreases-loop-left
decreases-loop-left g l = l.left
