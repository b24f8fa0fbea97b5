use Rattle.std.proofs.Common.{ℕ, ◌<◌, ◌≤◌, ◌-◌}
use Rattle.p3_duplex.specs.LaneSearch.{PassesAt}
use Rattle.p3_duplex.proofs.duplex_challenger.lane_search.least_in_lanes.Given as goal

abbrev pub decreases-batches : goal.decreases-batches
decreases-batches g l = g.F.PrimeCharacteristicRing.residues.order - l.first

-- no candidate so far passes
abbrev pub invariant-batches : goal.invariant-batches
invariant-batches g l =
    let r = g.F.PrimeCharacteristicRing.residues in
    (l.first ≤ r.order)
    × ((n : ℕ) → n < l.first
    → ¬ (PassesAt r (g.P.CryptographicPermutation.permutation l.permutation) l.cells l.place l.output l.bits (r.of n)))
