use Rattle.p3_duplex.specs.DuplexUniformLaws.{check-takes_no_memory, check-not_refused}
use Rattle.p3_duplex.proofs.duplex_challenger.DuplexChallenger.uniform_checks_take_no_memory.Goals as goal

pub returns-clause-memory : goal.returns-clause-memory
returns-clause-memory g c resample bits =
    check-takes_no_memory g.F.PrimeCharacteristicRing.residues g.P.CryptographicPermutation.permutation g.row.RATE
    resample g.F.UniformSamplingField.MAX_SINGLE_SAMPLE_BITS bits

pub returns-clause-unrefused : goal.returns-clause-unrefused
returns-clause-unrefused g c bits =
    check-not_refused g.F.PrimeCharacteristicRing.residues g.P.CryptographicPermutation.permutation g.row.RATE
    g.F.UniformSamplingField.MAX_SINGLE_SAMPLE_BITS bits
