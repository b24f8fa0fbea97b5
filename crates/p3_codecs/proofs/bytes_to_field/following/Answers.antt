use Rattle.p3_codecs.proofs.Following.{following-is}
use Rattle.p3_codecs.proofs.bytes_to_field.following.Goals as goal

pub returns : goal.returns
returns g c =
    let ring = g.met.F.PrimeCharacteristicRing in
    following-is g.F.PrimeCharacteristicRing.residues ring.are_residues c.args.number c.from_u16.result c.mul.result
    c.from_u8.result c.add.result c.args.byte
    c.from_u16.ensures (ring.mul_law c.args.number c.from_u16.result c.mul.result c.mul.ensures) c.from_u8.ensures
    (ring.add_law c.mul.result c.from_u8.result c.add.result c.add.ensures)
