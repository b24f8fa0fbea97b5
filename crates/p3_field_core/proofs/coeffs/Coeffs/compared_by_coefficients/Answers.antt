use Rattle.p3_field_core.specs.CoefficientLaws.{compared-by-coefficients}
use Rattle.p3_field_core.proofs.coeffs.Coeffs.compared_by_coefficients.Goals as goal

-- the elements of the field compare exactly, so the lists of them do
pub returns : goal.returns
returns g c = compared-by-coefficients g.met.F.PrimeCharacteristicRing.eq_law
