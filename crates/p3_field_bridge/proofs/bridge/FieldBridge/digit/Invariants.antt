use Rattle.std.proofs.Common.{◌≡◌, ◌/◌, ◌^◌}
use Rattle.p3_field_bridge.proofs.bridge.FieldBridge.digit.Given as goal

-- a place is taken off each time
abbrev pub invariant-loop : goal.invariant-loop
invariant-loop g l =
    let order = g.F.PrimeCharacteristicRing.residues.order in
    l.left ≡ g.PF.PrimeCharacteristicRing.residues.number l.fn.value / order ^ l.counter
