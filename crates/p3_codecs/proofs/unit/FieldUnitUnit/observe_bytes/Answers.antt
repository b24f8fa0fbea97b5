use Rattle.p3_fs_core.specs.PackingLaws.{field_packed-prefix_code}
use Rattle.p3_codecs.proofs.unit.FieldUnitUnit.observe_bytes.Goals as goal

pub returns-clause-prefix_code : goal.returns-clause-prefix_code
returns-clause-prefix_code g c =
    let met = g.met.F.Field in
    field_packed-prefix_code g.F.PrimeCharacteristicRing.residues g.met.F.PrimeCharacteristicRing.are_residues
    g.F.Field.bit_length met.bits_below met.bits_least c.requires
