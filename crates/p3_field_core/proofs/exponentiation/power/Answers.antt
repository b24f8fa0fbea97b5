use Rattle.std.proofs.Common.{◌∙◌, ◌%◌, ◌^◌, arith}
use Rattle.p3_field_core.proofs.Powers.{step-odd, step-even, of-power}
use Rattle.p3_field_core.proofs.exponentiation.power.Goals.{then-left-eq1, else-left-eq1}
use Rattle.p3_field_core.proofs.exponentiation.power.Goals as goal

-- a square and half the power make the power, with one factor more where it is odd
pub loop-left-preserved : goal.loop-left-preserved
loop-left-preserved g c =
    let ring = g.met.R.PrimeCharacteristicRing in
    let r = g.R.PrimeCharacteristicRing.residues in
    let whole = (r.number c.args.base ^ c.args.exponent) % r.order in
    let square = ring.mul_law _ _ _ c.mul-square.ensures in
    elim c.if-left-eq1.branch [
      | then-left-eq1 w ↦
          let product = w.product-is ∙ ring.mul_law _ _ _ w.mul-product.ensures in
          step-odd r ring.are_residues _ _ _ _ c.loop-left.left whole w.if-left-eq1.true product square
          c.loop-left.invariant
      | else-left-eq1 w ↦
          step-even r ring.are_residues _ _ _ _ c.loop-left.left whole w.if-left-eq1.false w.product-is square
          c.loop-left.invariant
    ]

-- nothing is left of the power, so the product is the power
pub returns : goal.returns
returns g c =
    of-power g.R.PrimeCharacteristicRing.residues g.met.R.PrimeCharacteristicRing.are_residues c.args.base _ _
    c.args.exponent _ (omega arith) c.loop-left.invariant
