use Rattle.std.proofs.Common.{◌≡◌, ◌≤◌, ◌^◌, arith, ◌∙◌}
use Rattle.p3_challenger_core.specs.BitLaws.{greatest-log}
use Rattle.p3_multi_field.proofs.multi_field_challenger.bits.MultiField32ChallengerCanSampleBitsUsize.max_bits.Goals as goal

-- the order is above 1, and its least power of two above has at most 64 bits
pub returns : goal.returns
returns g c =
    let order = g.F.PrimeCharacteristicRing.residues.order in
    let log = c.log2_ceil_u64 in
    let order_is : c.ORDER_U64.result ≡ order = c.ORDER_U64.ensures ∙ g.met.F.PrimeField64.order_u64_is in
    let enough : order ≤ 2 ^ log.result = omega (arith, log.ensures.enough, order_is) in
    greatest-log order log.result g.met.F.PrimeCharacteristicRing.are_residues.above_one
    g.met.F.PrimeField64.fits_u64 enough
    (λ k h. log.ensures.least k (omega (arith, h, order_is)))
