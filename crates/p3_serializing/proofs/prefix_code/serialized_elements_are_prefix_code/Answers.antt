use Rattle.p3_serializing.specs.SerializingSymbolLaws.{elements-tell_apart, element_rows-prefix_code}
use Rattle.p3_serializing.proofs.prefix_code.serialized_elements_are_prefix_code.Goals as goal

pub returns-clause-elements : goal.returns-clause-elements
returns-clause-elements g c =
    λ prefix_code. elements-tell_apart g.Inner.CanObserve.observation.symbols prefix_code
    g.F.PrimeCharacteristicRing.residues g.met.F.PrimeCharacteristicRing.are_residues g.row.BYTES
    g.met.F.SerializedIn.order_fits

pub returns-clause-arrays : goal.returns-clause-arrays
returns-clause-arrays g c =
    λ prefix_code. element_rows-prefix_code g.Inner.CanObserve.observation.symbols prefix_code
    g.F.PrimeCharacteristicRing.residues g.met.F.PrimeCharacteristicRing.are_residues g.row.BYTES
    g.met.F.SerializedIn.order_fits g.row.N
