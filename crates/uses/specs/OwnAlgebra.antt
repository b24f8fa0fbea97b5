-- A user-defined algebra: its elements by their coefficients.
use Rattle.std.specs.Prelude.{List}
use Rattle.p3_field.specs.BabyBearResidues.{BabyBear, residues}
use Rattle.uses.specs.declared.own_algebra.Quartic.{Quartic}
use Rattle.p3_field.specs.CoeffsCoefficients as coeffs

abbrev pub coefficients_of : Quartic → List BabyBear
coefficients_of x = coeffs.coefficients_of x.coefficients

-- the element with these coefficients
abbrev pub element_of : List BabyBear → Quartic
element_of xs = record { coefficients = coeffs.element_of (residues.of 0) xs }
