use Rattle.p3_lanes.specs.LaneLaws.{sum_reduced}
use Rattle.p3_small_primes.specs.{SmallPrimes.residues_below, SmallPrimeLaws.laws}
use Rattle.p3_lanes.proofs.small_prime_lanes.SmallPrimeLanesAdd.add.Goals as goal

pub returns : goal.returns
returns g c =
    λ l lt. sum_reduced (residues_below g.row.ORDER _) (laws g.row.ORDER _) _ _ (c.args.self.canonical l lt)
    (c.args.rhs.canonical l lt) _ (c.lane_sums.ensures l lt)
