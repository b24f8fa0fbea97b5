use Rattle.std.proofs.Common.{◌≡◌, ◌-◌, ◌^◌, map, drop, length}
use Rattle.p3_field_bridge.specs.Digits.{number_in}
use Rattle.p3_field_bridge.proofs.bridge.FieldBridge.pack.Given as goal

-- the last values are packed
abbrev pub invariant-loop-i : goal.invariant-loop-i
invariant-loop-i g l =
    let numbers = map g.F.PrimeCharacteristicRing.residues.number (drop (length l.values - l.i) l.values) in
    l.packed ≡ g.PF.PrimeCharacteristicRing.residues.of (number_in (2 ^ g.Self.FieldBridge.RADIX_BITS) numbers)
