use Rattle.p3_field_core.specs.RingLaws.{residues-ring}
use Rattle.p3_field_core.proofs.ring.residues_are_a_ring.Goals as goal

pub returns : goal.returns
returns g c = residues-ring g.F.PrimeCharacteristicRing.residues g.met.F.PrimeCharacteristicRing.are_residues
