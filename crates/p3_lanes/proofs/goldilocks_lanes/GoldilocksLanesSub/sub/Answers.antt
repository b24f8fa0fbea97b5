use Rattle.p3_lanes.specs.LaneLaws.{difference_reduced}
use Rattle.p3_goldilocks.specs.{GoldilocksResidues.residues, GoldilocksLaws.laws}
use Rattle.p3_lanes.proofs.goldilocks_lanes.GoldilocksLanesSub.sub.Goals as goal

pub returns : goal.returns
returns c =
    λ l lt. difference_reduced residues laws _ _ (c.args.self.canonical l lt) (c.args.rhs.canonical l lt) _
    (c.lane_differences.ensures l lt)
