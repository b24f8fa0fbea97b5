use Rattle.std.proofs.Common.{◌≡◌, ℕ, ◌<◌, ◌∙◌, sym, ap, subst, arith}
use Rattle.p3_duplex.specs.LaneSearch.{candidate, given_by, HasZeros, IsLeastOf, PassesAt}
use Rattle.p3_duplex.proofs.LaneBatches.{first_is_least, none_more}
use Rattle.p3_duplex.proofs.duplex_challenger.lane_search.least_in_lanes.Goals as goal

-- the first lane that passes has the least candidate that does
pub returns-in-Some : goal.returns-in-Some
returns-in-Some g c =
    let r = g.F.PrimeCharacteristicRing.residues in
    let bits = c.args.bits in
    let gives = given_by r (g.P.CryptographicPermutation.permutation c.args.permutation.now) c.args.cells.now c.args.place c.args.output in
    let lane = g.F.Packing.PackedValue.in_lane in
    let first = c.batches.first in
    let before : first < r.order = omega (arith, c.batches-test.true, c.ORDER_U64.ensures, g.met.F.PrimeField64.order_u64_is) in
    let given = c.given_in_lanes-given.result in
    let found = c.in-Some.ensures in
    let holds : (l : ℕ) → l < g.F.Packing.PackedValue.WIDTH → lane l given ≡ gives (r.of (candidate r.order first l)) =
    λ l lt. c.given_in_lanes-given.ensures l lt ∙ ap gives (c.candidates_from-candidates.ensures l lt) in
    let permute = g.P.CryptographicPermutation.permutation c.args.permutation.now in
    let Passes = PassesAt r permute c.args.cells.now c.args.place c.args.output bits in
    let least = first_is_least r g.met.F.PrimeCharacteristicRing.are_residues Passes first before c.batches.invariant.1
    c.in-Some.lane
    (subst (HasZeros r bits) (holds c.in-Some.lane found.below) found.passes)
    (λ k lt p. found.first k lt (subst (HasZeros r bits) (sym (holds k (omega (arith, lt, found.below)))) p)) in
    subst (IsLeastOf r Passes) (sym c.candidate_in.ensures) least

-- where no lane passes, none does up to the next batch
pub batches-preserved : goal.batches-preserved
batches-preserved g c =
    let r = g.F.PrimeCharacteristicRing.residues in
    let bits = c.args.bits in
    let permute = g.P.CryptographicPermutation.permutation c.args.permutation.now in
    let gives = given_by r permute c.args.cells.now c.args.place c.args.output in
    let lane = g.F.Packing.PackedValue.in_lane in
    let first = c.batches.first in
    let before : first < r.order = omega (arith, c.batches-test.true, c.ORDER_U64.ensures, g.met.F.PrimeField64.order_u64_is) in
    let given = c.given_in_lanes-given.result in
    let holds : (l : ℕ) → l < g.F.Packing.PackedValue.WIDTH → lane l given ≡ gives (r.of (candidate r.order first l)) =
    λ l lt. c.given_in_lanes-given.ensures l lt ∙ ap gives (c.candidates_from-candidates.ensures l lt) in (
      c.count_of_next-first.ensures.within,
      none_more r g.met.F.PrimeCharacteristicRing.are_residues
          (PassesAt r permute c.args.cells.now c.args.place c.args.output bits) first before c.batches.invariant.1
          g.F.Packing.PackedValue.WIDTH c.count_of_next-first.result
          c.count_of_next-first.ensures.lanes c.count_of_next-first.ensures.within
          (λ k lt p. c.in-None.ensures k lt (subst (HasZeros r bits) (sym (holds k lt)) p)),
    )
