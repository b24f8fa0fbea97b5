use Rattle.p3_duplex.specs.DuplexUniformLaws.{uniform_bits-take_no_memory, uniform_bits-meet_no_limit}
use Rattle.p3_duplex.proofs.duplex_challenger.DuplexChallenger.uniform_draws_take_no_memory.Goals as goal

pub returns-clause-memory : goal.returns-clause-memory
returns-clause-memory g c resample bits =
    uniform_bits-take_no_memory g.F.PrimeCharacteristicRing.residues g.P.CryptographicPermutation.permutation g.row.RATE
    resample g.F.UniformSamplingField.MAX_SINGLE_SAMPLE_BITS bits

pub returns-clause-limit : goal.returns-clause-limit
returns-clause-limit g c bits =
    uniform_bits-meet_no_limit g.F.PrimeCharacteristicRing.residues g.P.CryptographicPermutation.permutation g.row.RATE
    g.F.UniformSamplingField.MAX_SINGLE_SAMPLE_BITS bits
