use Rattle.std.proofs.Common.{◌≡◌, ◌≤◌, ◌*◌, ap, arith}
use Rattle.p3_field_bridge.specs.BridgeLaws.{counts_below_64}
use Rattle.p3_multi_field.proofs.Numbers.{small_row, rate-short}
use Rattle.p3_multi_field.proofs.multi_field_challenger.MultiField32Challenger.row_len.Goals as goal

-- the rate is at most 255 cells, of fewer than 64 digits each
pub overflow_mul-result : goal.overflow_mul-result
overflow_mul-result g c =
    let bridge = g.met.PF.FieldBridge in
    let keeps = c.self.invariant in
    let squeeze = g.PF.FieldBridge.SQUEEZE_COUNT in
    let small = counts_below_64 _ _ _ _ _ bridge.are_radix_bits bridge.are_counts
    g.met.F.PrimeCharacteristicRing.are_residues.above_one keeps.increasing g.met.PF.PrimeField64.fits_u64 in
    let few : g.row.RATE ≤ 255 = rate-short _ _ _ _ _ _ _ _ keeps in
    let product = small_row g.row.RATE squeeze few small.1 in
    let same : g.row.RATE * c.SQUEEZE_COUNT.result ≡ g.row.RATE * squeeze =
    ap (λ k. g.row.RATE * k) c.SQUEEZE_COUNT.ensures in
    omega (arith, same, product)
