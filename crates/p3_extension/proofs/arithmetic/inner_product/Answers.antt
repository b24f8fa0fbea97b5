use Rattle.std.proofs.Common.{◌≡◌, length, ◌∙◌, ap₂, arith}
use Rattle.p3_field_core.specs.{Residues.{sum_of}, RingLaws.residues-ring}
use Rattle.p3_extension.proofs.ExtensionProducts.{inner-product-read}
use Rattle.p3_extension.proofs.arithmetic.inner_product.Goals as goal

-- the sums of the products are the elements of the sums of their numbers
pub returns : goal.returns
returns g c =
    let r = g.F.PrimeCharacteristicRing.residues in
    let laws = g.met.F.PrimeCharacteristicRing.are_residues in
    let add = g.met.F.PrimeCharacteristicRing.add_law in
    let mul = g.met.F.PrimeCharacteristicRing.mul_law in
    let sums = (residues-ring r laws).sum_of_numbers in
    let x_full : length c.args.x ≡ 4 = omega (arith, c.well_formed) in
    let y_full : length c.args.y ≡ 4 = omega (arith, c.well_formed) in
    add _ _ _ c.add-3.ensures
    ∙ ap₂ (sum_of r)
    (add _ _ _ c.add-2.ensures
    ∙ ap₂ (sum_of r)
    (add _ _ _ c.add.ensures ∙ ap₂ (sum_of r) (mul _ _ _ c.mul.ensures) (mul _ _ _ c.mul-2.ensures) ∙ sums _ _)
    (mul _ _ _ c.mul-3.ensures)
    ∙ sums _ _)
    (mul _ _ _ c.mul-4.ensures)
    ∙ sums _ _
    ∙ inner-product-read r laws c.index-x-0.result c.args.x c.args.y x_full y_full _ _ _ _ _ _ _ _
