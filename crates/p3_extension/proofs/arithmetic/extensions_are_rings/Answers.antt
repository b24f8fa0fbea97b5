use Rattle.p3_extension.specs.{ExtensionCoefficientLaws.coefficients-injective, ExtensionLaws.extension-ring}
use Rattle.p3_extension.proofs.arithmetic.extensions_are_rings.Goals as goal

pub returns-clause-ring : goal.returns-clause-ring
returns-clause-ring g c =
    extension-ring g.F.PrimeCharacteristicRing.residues g.met.F.PrimeCharacteristicRing.are_residues (g.F.PrimeCharacteristicRing.residues.of g.F.BinomialModulus.W)

-- the coefficients determine the element
pub returns-clause-constants : goal.returns-clause-constants
returns-clause-constants g c value x e = coefficients-injective x _ e
