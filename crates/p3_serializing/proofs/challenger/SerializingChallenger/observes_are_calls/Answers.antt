use Rattle.p3_symmetric.specs.Digests.{values_of}
use Rattle.p3_serializing.{specs.Bytes.bytes_of, proofs.Calls.{row-bytes, rows-bytes}}
use Rattle.p3_serializing.proofs.challenger.SerializingChallenger.observes_are_calls.Goals as goal

pub returns-clause-array : goal.returns-clause-array
returns-clause-array g c =
    row-bytes g.Inner.CanObserve.observation.observed
    (λ x. bytes_of g.row.BYTES (g.F.PrimeCharacteristicRing.residues.number x))

pub returns-clause-cap : goal.returns-clause-cap
returns-clause-cap g c = row-bytes g.Inner.CanObserve.observation.observed (λ root. root)

pub returns-clause-digest_of_words : goal.returns-clause-digest_of_words
returns-clause-digest_of_words g c s digest =
    row-bytes g.Inner.CanObserve.observation.observed (bytes_of 8) s (values_of digest)

pub returns-clause-cap_of_words : goal.returns-clause-cap_of_words
returns-clause-cap_of_words g c = rows-bytes g.Inner.CanObserve.observation.observed (bytes_of 8)
