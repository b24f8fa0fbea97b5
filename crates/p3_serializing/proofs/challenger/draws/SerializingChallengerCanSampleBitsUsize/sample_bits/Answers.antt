use Rattle.std.proofs.Common.{◌≡◌, ◌<◌, ◌-◌, ◌*◌, ◌%◌, ◌^◌, Some, sym, ap, ◌∙◌, arith}
use Rattle.p3_challenger_core.specs.BitLaws.{greatest-le, shifted, shifted-positive}
use Rattle.p3_serializing.{specs.SerializingState.group, proofs.Masks.masked-drawn}
use Rattle.p3_serializing.proofs.challenger.draws.SerializingChallengerCanSampleBitsUsize.sample_bits.Goals as goal

pub overflow_shl-result : goal.overflow_shl-result
overflow_shl-result g c = omega (arith, greatest-le g.F.PrimeCharacteristicRing.residues.order 63, c.requires)

pub overflow_sub-result : goal.overflow_sub-result
overflow_sub-result g c =
    shifted-positive c.args.bits (omega (arith, greatest-le g.F.PrimeCharacteristicRing.residues.order 63, c.requires))

-- the low bits of the group that was drawn
pub returns-clause-drawn : goal.returns-clause-drawn
returns-clause-drawn g c =
    let r = g.F.PrimeCharacteristicRing.residues in
    let short : c.args.bits < 64 = omega (arith, greatest-le r.order 63, c.requires) in
    let read = group g.Inner.CanSample.sampling g.row.BYTES in
    let state = g.Inner.Sponge.state in
    let bits = c.args.bits in
    let mask : (1 * 2 ^ bits) % 18446744073709551616 - 1 ≡ 2 ^ bits - 1 = ap (λ n. n - 1) (shifted bits short) in
    let here : c.self.inside.inner ≡ c.args.self.now.inner = ap (λ v. v.inner) c.self.view_is in
    let drawn : read.sampled (state c.args.self.now.inner) ≡ Some c.in_ok-word.word =
    ap (λ i. read.sampled (state i)) (sym here) ∙ c.in_ok-word.ensures.0 in
    masked-drawn (read.sampled (state c.args.self.now.inner)) c.in_ok-word.word
    ((1 * 2 ^ bits) % 18446744073709551616 - 1) bits mask drawn
