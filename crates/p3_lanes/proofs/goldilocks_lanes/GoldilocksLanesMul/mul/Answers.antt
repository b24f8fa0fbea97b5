use Rattle.p3_lanes.specs.LaneLaws.{product_reduced}
use Rattle.p3_goldilocks.specs.{GoldilocksResidues.residues, GoldilocksLaws.laws}
use Rattle.p3_lanes.proofs.goldilocks_lanes.GoldilocksLanesMul.mul.Goals as goal

pub returns : goal.returns
returns c =
    λ l lt. product_reduced residues laws _ _ (c.args.self.canonical l lt) (c.args.rhs.canonical l lt) _
    (c.lane_products.ensures l lt)
