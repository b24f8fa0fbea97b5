use Rattle.p3_duplex.specs.DuplexUniformLaws.{single-limit, uniform_bits-limit}
use Rattle.p3_duplex.proofs.duplex_challenger.DuplexChallenger.limits_are_met_exactly.Goals as goal

pub returns-clause-one : goal.returns-clause-one
returns-clause-one g c bits some few =
    uniform_bits-limit g.F.PrimeCharacteristicRing.residues g.P.CryptographicPermutation.permutation g.row.RATE
    g.F.UniformSamplingField.MAX_SINGLE_SAMPLE_BITS bits some few

pub returns-clause-half : goal.returns-clause-half
returns-clause-half g c bits =
    single-limit g.F.PrimeCharacteristicRing.residues g.P.CryptographicPermutation.permutation g.row.RATE bits
