use Rattle.std.proofs.Common.{◌≡◌, ◌<◌, ◌∙◌, length, map, slice_index_or, slice_set, inl, inr, sym, ap, arith}
use Rattle.std.proofs.lemmas.{Bool.cases_eq, Grind.get_or-set_at}
use Rattle.std.proofs.lemmas.List.{length-set, length-map, map-set, get_or-map, get_or-set_other, get_or_default, ext_get_or}
use Rattle.p3_duplex.proofs.LaneBatches.{offset_fits}
use Rattle.p3_duplex.proofs.duplex_challenger.lane_search.given_in_lanes.Goals as goal

-- one more cell stands in each lane
pub cells-preserved : goal.cells-preserved
cells-preserved g c =
    let lane = g.F.Packing.PackedValue.in_lane in
    let lanes = c.cells.lanes in
    let cells = c.args.cells.now in
    let i = c.cells.i in
    let cell = c.index-cells-i.result in
    let new = c.broadcast.result in
    let zero = g.F.PrimeCharacteristicRing.residues.of 0 in
    let long = c.cells.invariant.0 in
    let whole = c.cells.invariant.2 in (
      length-set lanes i new ∙ long,
      λ j before m lt.
          let there : i < length (map (lane m) lanes) = omega (arith, c.cells-test.true, length-map lanes (lane m), long) in
          ap (λ xs. slice_index_or xs j zero) (map-set (lane m) lanes i new) ∙ elim (cases_eq j i) [
            | inl here ↦ get_or-set_at (map (lane m) lanes) i j (lane m new) zero here there
                ∙ c.broadcast.ensures m lt ∙ get_or_default cells i cell zero (omega (arith, c.cells-test.true, whole))
                ∙ ap (λ k. slice_index_or cells k zero) (sym here)
            | inr other ↦ get_or-set_other (map (lane m) lanes) i j (lane m new) zero other
                ∙ c.cells.invariant.1 j (omega (arith, before, other)) m lt
          ],
      whole,
    )

-- the write of the candidates and the permutation are those of each lane
pub returns : goal.returns
returns g c =
    let lane = g.F.Packing.PackedValue.in_lane in
    let r = g.F.PrimeCharacteristicRing.residues in
    let zero = r.of 0 in
    let cells = c.args.cells.now in
    let permute = g.P.CryptographicPermutation.permutation c.args.permutation.now in
    let start = c.cells.lanes in
    let new = c.permute_lanes.new.state in
    let given = c.index-lanes-output.result in
    let long = c.cells.invariant.0 in
    λ l lt.
    let same : map (lane l) start ≡ cells = ext_get_or zero (map (lane l) start) cells
    (length-map start (lane l) ∙ long ∙ sym c.cells.invariant.2)
    (λ j below. c.cells.invariant.1 j (omega (arith, below, c.cells-test.false, length-map start (lane l), long)) l lt) in
    let there : c.args.output < length new = omega (arith, c.requires.output) in
    sym (get_or-map (lane l) new c.args.output given zero there)
    ∙ ap (λ xs. slice_index_or xs c.args.output zero) (c.permute_lanes.ensures l lt)
    ∙ ap (λ xs. slice_index_or (permute xs) c.args.output zero)
    (map-set (lane l) start c.args.place c.args.candidates
    ∙ ap (λ xs. slice_set xs c.args.place (lane l c.args.candidates)) same)

pub offset_bounds-lanes-i : goal.offset_bounds-lanes-i
offset_bounds-lanes-i g c = offset_fits c.cells.i _ _ c.cells-test.true c.requires.room

pub offset_bounds-lanes-place : goal.offset_bounds-lanes-place
offset_bounds-lanes-place g c = offset_fits c.args.place _ _ c.requires.place c.requires.room

pub permute_lanes-requires : goal.permute_lanes-requires
permute_lanes-requires g c = c.requires.room

pub offset_bounds-lanes-output : goal.offset_bounds-lanes-output
offset_bounds-lanes-output g c = offset_fits c.args.output _ _ c.requires.output c.requires.room
