use Rattle.p3_duplex.specs.DuplexUniformLaws.{same_draw, uniform_bits-one, uniform_bits-halved}
use Rattle.p3_grinding.specs.UniformDraws.{no_bits}
use Rattle.p3_duplex.proofs.duplex_challenger.DuplexChallenger.uniform_draws_have_parts.Goals as goal

pub returns-clause-none : goal.returns-clause-none
returns-clause-none g c resample = same_draw no_bits

pub returns-clause-one : goal.returns-clause-one
returns-clause-one g c resample bits some few =
    uniform_bits-one g.F.PrimeCharacteristicRing.residues g.P.CryptographicPermutation.permutation g.row.RATE resample
    g.F.UniformSamplingField.MAX_SINGLE_SAMPLE_BITS bits some few

pub returns-clause-halves : goal.returns-clause-halves
returns-clause-halves g c resample bits more =
    uniform_bits-halved g.F.PrimeCharacteristicRing.residues g.P.CryptographicPermutation.permutation g.row.RATE
    resample g.F.UniformSamplingField.MAX_SINGLE_SAMPLE_BITS bits more
