use Rattle.p3_fs_core.specs.ScalarLaws.{is_encoding}
use Rattle.p3_step_laws.proofs.ReadOnly.{only_reads, value-only}
use Rattle.p3_step_laws.proofs.encoded.read_work_is_encoded.Goals as goal

pub returns : goal.returns
returns g c = λ step bits.
    let ring = g.met.C.Witness.PrimeCharacteristicRing in
    let encodes = is_encoding _ ring.are_residues _ g.met.C.Witness.Field.bits_below in
    only_reads (λ bytes x rest are h. (tt, value-only _ encodes bytes x rest are h))
