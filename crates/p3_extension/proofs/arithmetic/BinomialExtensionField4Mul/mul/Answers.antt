use Rattle.std.proofs.Common.{◌∙◌, ap}
use Rattle.p3_extension.specs.ExtensionLaws.{same-items}
use Rattle.p3_extension.proofs.ExtensionProducts.{product-read}
use Rattle.p3_extension.proofs.arithmetic.BinomialExtensionField4Mul.mul.Goals as goal

-- each coefficient is the inner product with a row of the matrix of the second factor
pub returns : goal.returns
returns g c =
    let ring = g.met.F.PrimeCharacteristicRing in
    let mul = ring.mul_law in
    let residues = g.F.PrimeCharacteristicRing.residues in
    let w = c.from_u8-w.ensures ∙ ap residues.of c.W.ensures in
    product-read residues ring.are_residues (residues.of g.F.BinomialModulus.W) c.args.self c.args.rhs
    c.index-rhs-0.result c.index-rhs-1.result c.index-rhs-2.result c.index-rhs-3.result
    c.mul-wy1.result c.mul-wy2.result c.mul-wy3.result c.from_u8-w.result c.from_u8-w.result c.from_u8-w.result w w w
    (mul _ _ _ c.mul-wy1.ensures) (mul _ _ _ c.mul-wy2.ensures) (mul _ _ _ c.mul-wy3.ensures) c.new.result
    (c.new.ensures
    ∙ same-items c.inner_product.ensures c.inner_product-2.ensures c.inner_product-3.ensures c.inner_product-4.ensures)
