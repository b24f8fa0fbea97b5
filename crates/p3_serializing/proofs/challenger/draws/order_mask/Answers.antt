use Rattle.std.proofs.Common.{◌≡◌, ◌≤◌, ◌-◌, ◌^◌, ◌∙◌, ap, arith}
use Rattle.p3_serializing.proofs.Masks.{shifted_out, log-is}
use Rattle.p3_serializing.proofs.challenger.draws.order_mask.Goals as goal

-- the order fits in 64 bits
pub overflow_sub-result : goal.overflow_sub-result
overflow_sub-result g c =
    let order_is = c.ORDER_U64.ensures ∙ g.met.F.PrimeField64.order_u64_is in
    omega (arith, c.log2_ceil_u64.ensures.least 64 (omega (arith, order_is, g.met.F.PrimeField64.fits_u64)))

pub returns : goal.returns
returns g c =
    let order = g.F.PrimeCharacteristicRing.residues.order in
    let log = c.log2_ceil_u64 in
    let order_is : c.ORDER_U64.result ≡ order = c.ORDER_U64.ensures ∙ g.met.F.PrimeField64.order_u64_is in
    let enough : order ≤ 2 ^ log.result = omega (arith, log.ensures.enough, order_is) in
    let is = log-is order log.result g.met.F.PrimeCharacteristicRing.are_residues.above_one
    g.met.F.PrimeField64.fits_u64 enough (λ k h. log.ensures.least k (omega (arith, h, order_is))) in
    let short : log.result ≤ 64 = log.ensures.least 64 (omega (arith, order_is, g.met.F.PrimeField64.fits_u64)) in
    shifted_out log.result short ∙ ap (λ k. 2 ^ k - 1) is
