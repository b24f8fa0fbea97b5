use Rattle.p3_extension.specs.ExtensionCoefficientLaws.{compared-by-coefficients}
use Rattle.p3_extension.proofs.binomial_extension_field.BinomialExtensionField.compared_by_coefficients.Goals as goal

-- the elements of the field compare exactly, so the lists of them do
pub returns : goal.returns
returns g c = compared-by-coefficients g.met.F.PrimeCharacteristicRing.eq_law
