use Rattle.p3_field_bridge.specs.BridgeLaws.{digits-any}
use Rattle.p3_field_bridge.proofs.laws.digits_are_any.Goals as goal

pub returns : goal.returns
returns g c =
    digits-any g.F.PrimeCharacteristicRing.residues g.PF.PrimeCharacteristicRing.residues
    g.met.F.PrimeCharacteristicRing.are_residues g.met.PF.PrimeCharacteristicRing.are_residues
    g.B.FieldBridge.RADIX_BITS g.B.FieldBridge.ABSORB_COUNT g.B.FieldBridge.SQUEEZE_COUNT
    g.met.B.FieldBridge.are_counts
