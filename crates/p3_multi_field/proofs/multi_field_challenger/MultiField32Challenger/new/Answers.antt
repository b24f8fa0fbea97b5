use Rattle.std.proofs.Common.{rules, ◌≡◌, ◌<◌, ◌≤◌, ℕ, min, replicate, arith}
use Rattle.p3_sponge.specs.{SpongeCalls.emptied, SpongeStepLaws.emptied-fits}
use Rattle.p3_multi_field.proofs.{Pairs.pair_over, ReadBack.reads_back}
use Rattle.p3_multi_field.{specs.MultiFieldCalls.scalars_rule, proofs.Numbers.{keeps_none, some_product}}
use Rattle.p3_multi_field.proofs.multi_field_challenger.MultiField32Challenger.new.Goals as goal

least_counted : (product batch count : ℕ) → batch ≡ min product 18446744073709551615 → product ≡ count
    → batch ≤ 255 → count ≤ 255
least_counted product batch count is same few = omega (arith, is, same, few)

-- the orders were compared, and so was the product
pub invariant_of-result : goal.invariant_of-result
invariant_of-result g c =
    let increasing : g.F.PrimeCharacteristicRing.residues.order < g.PF.PrimeCharacteristicRing.residues.order =
    omega (arith, c.if-ORDER_U64.false, g.met.F.PrimeField64.order_u64_is, g.met.PF.PrimeField64.order_u64_is) in
    let counts = g.met.PF.FieldBridge.are_counts in
    keeps_none _ _ _ _ _ _ c.requires.rate c.requires.capacity increasing (counts.absorb_one increasing)
    (counts.squeeze_one increasing)
    (least_counted _ _ _ c.saturating_mul-batch_len.ensures (search rules) c.if-batch_len-gt-MOST_SCALARS.false)

pub returns-clause-reads_back : goal.returns-clause-reads_back
returns-clause-reads_back g c below =
    let inner = g.F.PrimeCharacteristicRing.residues in
    let outer = g.PF.PrimeCharacteristicRing.residues in
    let increasing : inner.order < outer.order =
    omega (arith, c.if-ORDER_U64.false, g.met.F.PrimeField64.order_u64_is, g.met.PF.PrimeField64.order_u64_is) in
    let bridge = g.PF.FieldBridge in
    let counts = g.met.PF.FieldBridge.are_counts in
    let pair = pair_over inner outer bridge in
    let some_batch = some_product bridge.ABSORB_COUNT g.row.RATE (counts.absorb_one increasing) c.requires.rate in
    let some_row = some_product g.row.RATE bridge.SQUEEZE_COUNT c.requires.rate (counts.squeeze_one increasing) in
    let permute = g.P.CryptographicPermutation.permutation c.args.permutation in
    let cells = replicate g.row.WIDTH c.zero.result in
    reads_back pair g.met.F.PrimeCharacteristicRing.are_residues g.met.PF.PrimeCharacteristicRing.are_residues
    g.met.PF.FieldBridge.are_radix_bits counts increasing permute g.row.RATE below some_batch some_row (emptied cells 0)
    (emptied-fits (scalars_rule pair permute g.row.RATE) some_batch some_row cells 0 (omega arith))
