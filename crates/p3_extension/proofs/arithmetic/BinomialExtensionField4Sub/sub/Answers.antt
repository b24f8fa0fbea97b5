use Rattle.std.proofs.Common.{◌∙◌, sym, ap₂}
use Rattle.p3_extension.specs.{BinomialExtensions.polynomial_difference, ExtensionCoefficientLaws.coefficients-injective}
use Rattle.p3_extension.specs.ExtensionLaws.{four, same-items}
use Rattle.p3_extension.proofs.Readings.{read-four}
use Rattle.p3_extension.proofs.arithmetic.BinomialExtensionField4Sub.sub.Goals as goal

-- coefficient by coefficient
pub returns : goal.returns
returns g c =
    let r = g.F.PrimeCharacteristicRing.residues in
    let law = g.met.F.PrimeCharacteristicRing.sub_law in
    let x = read-four c.args.self _ _ _ _ in
    let y = read-four c.args.rhs _ _ _ _ in
    coefficients-injective _ (polynomial_difference r (four _ _ _ _) (four _ _ _ _))
    (c.new.ensures
    ∙ same-items (law _ _ _ c.sub.ensures) (law _ _ _ c.sub-2.ensures) (law _ _ _ c.sub-3.ensures) (law _ _ _ c.sub-4.ensures))
    ∙ ap₂ (polynomial_difference r) (sym x) (sym y)
