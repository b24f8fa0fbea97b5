-- The coefficients of an element of an extension.
use Rattle.std.specs.Prelude.{ℕ, List}
use Rattle.p3_field_core.specs.CoeffsCoefficients.{cut_to, length-cut_to}
use Rattle.p3_extension.specs.declared.binomial_extension_field.BinomialExtensionField.{BinomialExtensionField}

abbrev pub coefficients_of : {F : Type 0} {D : ℕ} → BinomialExtensionField F D → List F
coefficients_of x = x.coefficients

-- the element of these coefficients, with zeros for those that are missing
abbrev pub element_of : {F : Type 0} {D : ℕ} → F → List F → BinomialExtensionField F D
element_of {F} {D} nought xs = record { coefficients = cut_to nought D xs; full = length-cut_to nought D xs }
