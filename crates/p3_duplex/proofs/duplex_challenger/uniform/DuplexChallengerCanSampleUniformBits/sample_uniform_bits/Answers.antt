use Rattle.std.proofs.Common.{arith}
use Rattle.p3_challenger_core.specs.BitLaws.{greatest-le}
use Rattle.p3_duplex.specs.DuplexUniformLaws.{halves-drawn}
use Rattle.p3_duplex.proofs.duplex_challenger.uniform.DuplexChallengerCanSampleUniformBits.sample_uniform_bits.Goals as goal

pub halved_bits-requires : goal.halved_bits-requires
halved_bits-requires g c = omega (arith, greatest-le g.F.PrimeCharacteristicRing.residues.order 63, c.requires)

pub single_bits-requires : goal.single_bits-requires
single_bits-requires g c = omega (arith, greatest-le g.F.PrimeCharacteristicRing.residues.order 63, c.requires)

-- more bits than one element serves for
pub returns-then-bits-MAX_SINGLE_SAMPLE_BITS : goal.returns-then-bits-MAX_SINGLE_SAMPLE_BITS
returns-then-bits-MAX_SINGLE_SAMPLE_BITS g c =
    halves-drawn g.F.PrimeCharacteristicRing.residues g.P.CryptographicPermutation.permutation g.row.RATE c.args.resample
    g.F.UniformSamplingField.MAX_SINGLE_SAMPLE_BITS c.args.bits c.args.self.now c.halved_bits.result c.halved_bits.new.self
    (omega (arith, c.MAX_SINGLE_SAMPLE_BITS.ensures, c.if-bits-MAX_SINGLE_SAMPLE_BITS.true)) c.halved_bits.ensures
