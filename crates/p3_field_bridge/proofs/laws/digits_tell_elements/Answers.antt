use Rattle.p3_field_bridge.specs.BridgeLaws.{digits-tell, digits-injective}
use Rattle.p3_field_bridge.proofs.laws.digits_tell_elements.Goals as goal

pub returns-clause-same : goal.returns-clause-same
returns-clause-same g c =
    digits-tell g.F.PrimeCharacteristicRing.residues g.PF.PrimeCharacteristicRing.residues
    g.met.F.PrimeCharacteristicRing.are_residues g.met.PF.PrimeCharacteristicRing.are_residues

pub returns-clause-apart : goal.returns-clause-apart
returns-clause-apart g c =
    digits-injective g.F.PrimeCharacteristicRing.residues g.PF.PrimeCharacteristicRing.residues
    g.met.F.PrimeCharacteristicRing.are_residues g.met.PF.PrimeCharacteristicRing.are_residues
