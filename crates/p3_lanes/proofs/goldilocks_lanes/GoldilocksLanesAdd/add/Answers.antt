use Rattle.p3_lanes.specs.LaneLaws.{sum_reduced}
use Rattle.p3_goldilocks.specs.{GoldilocksResidues.residues, GoldilocksLaws.laws}
use Rattle.p3_lanes.proofs.goldilocks_lanes.GoldilocksLanesAdd.add.Goals as goal

pub returns : goal.returns
returns c =
    λ l lt. sum_reduced residues laws _ _ (c.args.self.canonical l lt) (c.args.rhs.canonical l lt) _
    (c.lane_sums.ensures l lt)
