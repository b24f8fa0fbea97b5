use Rattle.p3_duplex.specs.DuplexUniformLaws.{uniform_bits-taken, taken-below, elements-shared}
use Rattle.p3_duplex.proofs.duplex_challenger.DuplexChallenger.uniform_bits_have_no_bias.Goals as goal

pub returns-clause-drawn : goal.returns-clause-drawn
returns-clause-drawn g c resample bits start some few =
    uniform_bits-taken g.F.PrimeCharacteristicRing.residues g.P.CryptographicPermutation.permutation g.row.RATE resample
    g.F.UniformSamplingField.MAX_SINGLE_SAMPLE_BITS bits start some few

pub returns-clause-below : goal.returns-clause-below
returns-clause-below g c =
    taken-below g.F.PrimeCharacteristicRing.residues g.P.CryptographicPermutation.permutation g.row.RATE

pub returns-clause-shared : goal.returns-clause-shared
returns-clause-shared g c =
    elements-shared g.F.PrimeCharacteristicRing.residues g.met.F.PrimeCharacteristicRing.are_residues
