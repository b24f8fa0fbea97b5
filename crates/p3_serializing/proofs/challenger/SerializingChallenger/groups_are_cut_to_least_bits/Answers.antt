use Rattle.std.proofs.Common.{◌≡◌, ◌≤◌, ◌^◌, ◌∙◌, subst, arith}
use Rattle.p3_serializing.proofs.Masks.{log-is}
use Rattle.p3_serializing.proofs.challenger.SerializingChallenger.groups_are_cut_to_least_bits.Goals as goal

pub returns : goal.returns
returns g c =
    let order = g.F.PrimeCharacteristicRing.residues.order in
    let log = c.log2_ceil_u64 in
    let order_is : c.ORDER_U64.result ≡ order = c.ORDER_U64.ensures ∙ g.met.F.PrimeField64.order_u64_is in
    let enough : order ≤ 2 ^ log.result = omega (arith, log.ensures.enough, order_is) in
    let is = log-is order log.result g.met.F.PrimeCharacteristicRing.are_residues.above_one
    g.met.F.PrimeField64.fits_u64 enough (λ k h. log.ensures.least k (omega (arith, h, order_is))) in
    record {
      enough = subst (λ k. order ≤ 2 ^ k) is enough;
      least = λ bits h. subst (λ k. k ≤ bits) is (log.ensures.least bits (omega (arith, h, order_is)));
    }
