use Rattle.std.proofs.Common.{◌<◌, ◌+◌, ◌∙◌, length, map, slice_index_or, inl, inr, sym, ap, arith}
use Rattle.std.proofs.lemmas.{Bool.cases_eq, List.{length-set, length-map, map-set, get_or-map, get_or-set_other}}
use Rattle.std.proofs.lemmas.{Grind.get_or-set_at, List.FromFn.fill_by_all}
use Rattle.p3_field_core.specs.Residues.{plus}
use Rattle.p3_symmetric.specs.Turn.{turned_cell}
use Rattle.p3_lanes.proofs.turn_in_lanes.TurnLanePermutation.permute_lanes.Goals as goal

-- one more cell is turned, in each lane
pub loop-i-preserved : goal.loop-i-preserved
loop-i-preserved g c =
    let r = g.F.PrimeCharacteristicRing.residues in
    let lane = g.F.Packing.PackedValue.in_lane in
    let state = c.loop-i.state in
    let i = c.loop-i.i in
    let old = c.args.state.now in
    let from = c.index-old-turned_index.result in
    let cell = c.plus_number_in_lanes.result in
    let zero = r.of 0 in
    let long = c.loop-i.invariant.0 in
    let k = c.turned_index.result in
    let there : k < length old = omega (arith, c.turned_index.ensures.below, c.loop-i.invariant.2) in (
      length-set state i cell ∙ long,
      λ j before m lt.
          let here_below : i < length (map (lane m) state) = omega (arith, c.loop-i-test.true, length-map state (lane m), long) in
          ap (λ cells. slice_index_or cells j zero) (map-set (lane m) state i cell) ∙ elim (cases_eq j i) [
            | inl here ↦ get_or-set_at (map (lane m) state) i j (lane m cell) zero here here_below
                ∙ c.plus_number_in_lanes.ensures m lt
                ∙ ap (λ x. plus r x (i + 1)) (sym (get_or-map (lane m) old k from zero there))
                ∙ ap (λ q. plus r (slice_index_or (map (lane m) old) q zero) (i + 1)) c.turned_index.ensures.place
                ∙ ap (λ k. turned_cell r g.row.K g.row.WIDTH (map (lane m) old) k) (sym here)
            | inr other ↦ get_or-set_other (map (lane m) state) i j (lane m cell) zero other
                ∙ c.loop-i.invariant.1 j (omega (arith, before, other)) m lt
          ],
      c.loop-i.invariant.2,
    )

-- each cell is turned, in each lane
pub returns : goal.returns
returns g c =
    let r = g.F.PrimeCharacteristicRing.residues in
    let lane = g.F.Packing.PackedValue.in_lane in
    λ l lt. fill_by_all (turned_cell r g.row.K g.row.WIDTH (map (lane l) c.args.state.now)) (map (lane l) c.loop-i.state)
    g.row.WIDTH (r.of 0) (length-map c.loop-i.state (lane l) ∙ c.loop-i.invariant.0)
    (λ j below. c.loop-i.invariant.1 j (omega (arith, below, c.loop-i-test.false)) l lt)
