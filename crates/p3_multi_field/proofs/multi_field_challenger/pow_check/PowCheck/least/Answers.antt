use Rattle.std.proofs.Common.{◌≡◌, ◌≤◌, ◌+◌, ◌*◌, ◌∙◌, length, take, slice_set, ap, ap₂, subst, arith}
use Rattle.p3_field_core.specs.Residues.{sum_of}
use Rattle.p3_field_bridge.specs.Bridges.{packed}
use Rattle.p3_multi_field.specs.PreparedChecks.{PreparedChecks}
use Rattle.p3_multi_field.proofs.{Pairs.pair_over, Preparing.not_true, Candidates.{few_bits, value_of, value-first}}
use Rattle.p3_multi_field.proofs.Candidates.{value-next, weight-is, cells_of-candidate, NoneBelow, none_below-next}
use Rattle.p3_multi_field.proofs.Candidates.{first-after}
use Rattle.p3_multi_field.proofs.multi_field_challenger.pow_check.PowCheck.least.Goals as goal

-- the order has at most 32 bits
pub overflow_shl-RADIX_BITS : goal.overflow_shl-RADIX_BITS
overflow_shl-RADIX_BITS g c =
    let few =
    few_bits g.F.PrimeCharacteristicRing.residues.order g.PF.FieldBridge.RADIX_BITS g.met.PF.FieldBridge.are_radix_bits
    g.met.F.PrimeField32.fits_u32 in
    omega (arith, few, c.RADIX_BITS.ensures)

-- the candidate 0 adds nothing, and the candidate 1 its weight
pub pairs-init : goal.pairs-init
pairs-init g c =
    let inner = g.F.PrimeCharacteristicRing.residues in
    let outer = g.PF.PrimeCharacteristicRing.residues in
    let ring = g.met.PF.PrimeCharacteristicRing in
    let bits = g.PF.FieldBridge.RADIX_BITS in
    let before = c.args.self.before in
    let view : take c.self.inside.within c.self.inside.before ≡ before =
    ap (λ (s : PreparedChecks g.row.F.Denot g.row.PF.Denot g.row.P.Denot). s.before) c.self.view_is in
    let room : c.self.inside.within ≤ length c.self.inside.before = omega (arith, c.self.invariant.few) in
    let few = few_bits inner.order bits g.met.PF.FieldBridge.are_radix_bits g.met.F.PrimeField32.fits_u32 in
    let weight =
    c.exp_u64-weight.ensures
    ∙ weight-is inner outer bits before ring.are_residues few c.RADIX_BITS.result c.from_u64.result
    c.self.inside.within c.self.inside.before c.RADIX_BITS.ensures c.from_u64.ensures view room in
    let first = c.pack-first.ensures ∙ ap (packed inner outer bits) view ∙ value-first inner outer bits before in
    let second =
    ring.add_law _ _ _ c.add-value.ensures ∙ ap₂ (sum_of outer) first weight
    ∙ value-next inner outer bits before ring.are_residues 0 in
    let put = slice_set c.args.self.cells c.args.self.place in (
      second,
      c.cells_with-even.ensures ∙ ap put first,
      c.cells_with-odd.ensures ∙ ap put second,
      λ n lt. absurd (omega (arith, lt)),
    )

-- elements have a sum
pub add-next_even-requires : goal.add-next_even-requires
add-next_even-requires g c = g.met.PF.PrimeCharacteristicRing.can_add_law _ _

-- the first candidate that passes has the least number
pub returns-then-accepts : goal.returns-then-accepts
returns-then-accepts g c =
    let inner = g.F.PrimeCharacteristicRing.residues in
    let laws = g.met.F.PrimeCharacteristicRing.are_residues in
    let pair = pair_over inner g.PF.PrimeCharacteristicRing.residues g.PF.FieldBridge in
    let permute = g.P.CryptographicPermutation.permutation in
    let check = c.args.self in
    let bits = c.args.bits in
    let n = 2 * c.pairs.pair in
    let has = cells_of-candidate pair permute g.row.RATE check bits laws n c.pairs.even c.pairs.invariant.1 in
    first-after pair permute g.row.RATE check bits laws n c.from_canonical_checked.result c.pairs.invariant.3
    (λ small. (c.accepts.ensures.passes (inner.of n) (has small)).0 c.if-accepts.true)
    c.from_canonical_checked.ensures.canonical c.from_canonical_checked.ensures.other

pub returns-then-accepts-2 : goal.returns-then-accepts-2
returns-then-accepts-2 g c =
    let inner = g.F.PrimeCharacteristicRing.residues in
    let laws = g.met.F.PrimeCharacteristicRing.are_residues in
    let pair = pair_over inner g.PF.PrimeCharacteristicRing.residues g.PF.FieldBridge in
    let permute = g.P.CryptographicPermutation.permutation in
    let check = c.args.self in
    let bits = c.args.bits in
    let n = 2 * c.pairs.pair in
    let even = cells_of-candidate pair permute g.row.RATE check bits laws n c.pairs.even c.pairs.invariant.1 in
    let odd = cells_of-candidate pair permute g.row.RATE check bits laws (n + 1) c.pairs.odd c.pairs.invariant.2 in
    let none =
    none_below-next pair permute g.row.RATE check bits n c.pairs.invariant.3
    (λ small p. not_true ((c.if-accepts.ensures.passes (inner.of n) (even small)).1 p)) in
    first-after pair permute g.row.RATE check bits laws (n + 1) c.from_canonical_checked-then-accepts-2.result none
    (λ small. (c.accepts-in-pairs.ensures.passes (inner.of (n + 1)) (odd small)).0 c.if-accepts-2.true)
    c.from_canonical_checked-then-accepts-2.ensures.canonical c.from_canonical_checked-then-accepts-2.ensures.other

-- each value is the weight more; where neither candidate passes, none does so far
pub pairs-preserved : goal.pairs-preserved
pairs-preserved g c =
    let inner = g.F.PrimeCharacteristicRing.residues in
    let outer = g.PF.PrimeCharacteristicRing.residues in
    let laws = g.met.F.PrimeCharacteristicRing.are_residues in
    let ring = g.met.PF.PrimeCharacteristicRing in
    let radix = g.PF.FieldBridge.RADIX_BITS in
    let pair = pair_over inner outer g.PF.FieldBridge in
    let permute = g.P.CryptographicPermutation.permutation in
    let check = c.args.self in
    let bits = c.args.bits in
    let before = check.before in
    let view : take c.self.inside.within c.self.inside.before ≡ before =
    ap (λ (s : PreparedChecks g.row.F.Denot g.row.PF.Denot g.row.P.Denot). s.before) c.self.view_is in
    let room : c.self.inside.within ≤ length c.self.inside.before = omega (arith, c.self.invariant.few) in
    let few = few_bits inner.order radix g.met.PF.FieldBridge.are_radix_bits g.met.F.PrimeField32.fits_u32 in
    let weight =
    c.exp_u64-weight.ensures
    ∙ weight-is inner outer radix before ring.are_residues few c.RADIX_BITS.result c.from_u64.result
    c.self.inside.within c.self.inside.before c.RADIX_BITS.ensures c.from_u64.ensures view room in
    let n = 2 * c.pairs.pair in
    let next : n + 1 + 1 ≡ 2 * (c.pairs.pair + 1) = omega arith in
    let even_value =
    ring.add_law _ _ _ c.add-next_even.ensures ∙ ap₂ (sum_of outer) c.pairs.invariant.0 weight
    ∙ value-next inner outer radix before ring.are_residues (n + 1)
    ∙ ap (value_of inner outer radix before) next in
    let odd_value =
    ring.add_law _ _ _ c.add-value-in-pairs.ensures ∙ ap₂ (sum_of outer) even_value weight
    ∙ value-next inner outer radix before ring.are_residues (2 * (c.pairs.pair + 1)) in
    let even = cells_of-candidate pair permute g.row.RATE check bits laws n c.pairs.even c.pairs.invariant.1 in
    let odd = cells_of-candidate pair permute g.row.RATE check bits laws (n + 1) c.pairs.odd c.pairs.invariant.2 in
    let none =
    none_below-next pair permute g.row.RATE check bits n c.pairs.invariant.3
    (λ small p. not_true ((c.if-accepts.ensures.passes (inner.of n) (even small)).1 p)) in
    let none_more =
    none_below-next pair permute g.row.RATE check bits (n + 1) none
    (λ small p. not_true ((c.if-accepts-2.ensures.passes (inner.of (n + 1)) (odd small)).1 p)) in
    let put = slice_set check.cells check.place in (
      odd_value,
      c.accepts.ensures.next ∙ ap put even_value,
      c.accepts-in-pairs.ensures.next ∙ ap put odd_value,
      subst (NoneBelow pair permute g.row.RATE check bits) next none_more,
    )
