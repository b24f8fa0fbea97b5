use Rattle.std.proofs.Common.{◌-◌, ◌^◌, length, map, drop, get_or, ap, sym, ◌∙◌, arith}
use Rattle.std.proofs.lemmas.Bool.{ltb-true}
use Rattle.p3_field_bridge.specs.{Digits.number_in, BridgeLaws.{some_bits, at_most_64}}
use Rattle.p3_field_bridge.proofs.Packing.{radix-is, packed-more, number-last, number-more, shifted_bit}
use Rattle.p3_field_bridge.proofs.bridge.FieldBridge.pack.Goals as goal

pub overflow_shl-RADIX_BITS : goal.overflow_shl-RADIX_BITS
overflow_shl-RADIX_BITS g c =
    let order = g.F.PrimeCharacteristicRing.residues.order in
    let bits = g.Self.FieldBridge.RADIX_BITS in
    let most = at_most_64 order bits g.met.Self.FieldBridge.are_radix_bits g.met.F.PrimeField64.fits_u64 in
    omega (arith, most, c.RADIX_BITS.ensures)

-- a value more is packed
pub loop-i-preserved : goal.loop-i-preserved
loop-i-preserved g c =
    let inner = g.F.PrimeCharacteristicRing.residues in
    let outer = g.PF.PrimeCharacteristicRing.residues in
    let ring = g.met.PF.PrimeCharacteristicRing in
    let bits = g.Self.FieldBridge.RADIX_BITS in
    let radix_laws = g.met.Self.FieldBridge.are_radix_bits in
    let some = some_bits inner.order bits radix_laws g.met.F.PrimeCharacteristicRing.are_residues.above_one in
    let most = at_most_64 inner.order bits radix_laws g.met.F.PrimeField64.fits_u64 in
    let radix =
    radix-is outer ring.are_residues bits c.from_u64-half.result c.add-radix.result _ some c.from_u64-half.ensures
    (shifted_bit c.RADIX_BITS.result bits c.RADIX_BITS.ensures some most)
    (ring.add_law _ _ _ c.add-radix.ensures) in
    let value =
    c.from_u64.ensures ∙ ap outer.of (c.as_canonical_u64-in-loop-i.ensures ∙ ap inner.number c.index-values-place.is) in
    let values = c.args.values.now in
    let i = c.loop-i.i in
    let so_far = number_in (2 ^ bits) (map inner.number (drop (length values - i) values)) in
    let next = get_or values (length values - 1 - i) c.index-values-place.result in
    packed-more outer ring.are_residues (2 ^ bits) so_far (inner.number next) c.loop-i.packed c.add-radix.result
    c.mul.result c.from_u64.result c.add-packed.result c.loop-i.invariant radix (ring.mul_law _ _ _ c.mul.ensures) value
    (ring.add_law _ _ _ c.add-packed.ensures)
    ∙ ap outer.of
    (number-more inner.number c.index-values-place.result (2 ^ bits) i values (omega (arith, c.loop-i-test.true)))

-- the last value is packed
pub loop-i-init : goal.loop-i-init
loop-i-init g c =
    let outer = g.PF.PrimeCharacteristicRing.residues in
    let number = g.F.PrimeCharacteristicRing.residues.number in
    let base = 2 ^ g.Self.FieldBridge.RADIX_BITS in
    let values = c.args.values.now in
    let highest = c.in-Some.highest.now in
    c.from_u64-packed.ensures
    ∙ ap outer.of
    (c.as_canonical_u64.ensures ∙ ap number c.in-Some.ensures.item.1
    ∙ number-last number highest base values (ltb-true 0 (length values) (sym c.in-Some.ensures.item.0)))
