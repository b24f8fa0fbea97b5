use Rattle.std.proofs.Common.{◌∙◌, sym, ap₂}
use Rattle.p3_extension.specs.{BinomialExtensions.polynomial_sum, ExtensionCoefficientLaws.coefficients-injective}
use Rattle.p3_extension.specs.ExtensionLaws.{four, same-items}
use Rattle.p3_extension.proofs.Readings.{read-four}
use Rattle.p3_extension.proofs.arithmetic.BinomialExtensionField4Add.add.Goals as goal

-- coefficient by coefficient
pub returns : goal.returns
returns g c =
    let r = g.F.PrimeCharacteristicRing.residues in
    let law = g.met.F.PrimeCharacteristicRing.add_law in
    let x = read-four c.args.self _ _ _ _ in
    let y = read-four c.args.rhs _ _ _ _ in
    coefficients-injective _ (polynomial_sum r (four _ _ _ _) (four _ _ _ _))
    (c.new.ensures
    ∙ same-items (law _ _ _ c.add.ensures) (law _ _ _ c.add-2.ensures) (law _ _ _ c.add-3.ensures) (law _ _ _ c.add-4.ensures))
    ∙ ap₂ (polynomial_sum r) (sym x) (sym y)
