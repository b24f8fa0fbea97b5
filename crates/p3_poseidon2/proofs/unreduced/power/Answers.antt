use Rattle.std.proofs.Common.{◌∙◌, sym, ap}
use Rattle.p3_field_core.specs.Residues.{power_of}
use Rattle.p3_goldilocks.specs.{GoldilocksResidues.residues, GoldilocksLaws.laws}
use Rattle.p3_poseidon2.proofs.Powers.{third-power, seventh-power}
use Rattle.p3_poseidon2.proofs.unreduced.power.Goals as goal

pub returns-then-this-eq3 : goal.returns-then-this-eq3
returns-then-this-eq3 g c =
    third-power residues laws (residues.of c.args.x) (residues.of c.product-square.result)
    (residues.of c.product-cube.result) c.product-square.ensures c.product-cube.ensures
    ∙ ap (power_of residues (residues.of c.args.x)) (sym c.if-this-eq3.true)

pub returns-else-this-eq3 : goal.returns-else-this-eq3
returns-else-this-eq3 g c =
    seventh-power residues laws (residues.of c.args.x) (residues.of c.product-square.result)
    (residues.of c.product-cube.result) (residues.of c.product-fourth.result) (residues.of c.product.result)
    c.product-square.ensures c.product-cube.ensures c.product-fourth.ensures c.product.ensures
    ∙ ap (power_of residues (residues.of c.args.x)) (sym (c.requires c.if-this-eq3.false))
