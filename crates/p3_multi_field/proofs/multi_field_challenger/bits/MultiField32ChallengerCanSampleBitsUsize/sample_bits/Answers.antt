use Rattle.std.proofs.Common.{◌≡◌, ◌<◌, ◌%◌, ◌^◌, Some, arith, ap}
use Rattle.p3_multi_field.{specs.MultiFieldState.sampled, proofs.Pairs.pair_over}
use Rattle.p3_challenger_core.specs.BitLaws.{greatest-le, shifted, shifted-positive}
use Rattle.p3_multi_field.proofs.multi_field_challenger.bits.MultiField32ChallengerCanSampleBitsUsize.sample_bits.Goals as goal

pub overflow_shl-result : goal.overflow_shl-result
overflow_shl-result g c = omega (arith, greatest-le g.F.PrimeCharacteristicRing.residues.order 63, c.requires)

pub nonzero_rem-result : goal.nonzero_rem-result
nonzero_rem-result g c =
    shifted-positive c.args.bits (omega (arith, greatest-le g.F.PrimeCharacteristicRing.residues.order 63, c.requires))

-- the low bits of the element that was drawn
pub returns-clause-drawn : goal.returns-clause-drawn
returns-clause-drawn g c =
    let pair = pair_over g.F.PrimeCharacteristicRing.residues g.PF.PrimeCharacteristicRing.residues g.PF.FieldBridge in
    let r = g.F.PrimeCharacteristicRing.residues in
    let short : c.args.bits < 64 = omega (arith, greatest-le r.order 63, c.requires) in
    let element = c.in_ok-element.element in
    let drawn = c.in_ok-element.ensures.drawn in
    let same : sampled pair g.P.CryptographicPermutation.permutation g.row.RATE c.args.self.now ≡ element = cc in
    rw (shifted c.args.bits short, c.as_canonical_u64.ensures) (ap (λ x. Some (r.number x % 2 ^ c.args.bits)) same)
