use Rattle.std.proofs.{Common.{◌∙◌, map, slice_index_or, inl, inr, sym, ap, arith}, lemmas.Bool.cases_eq}
use Rattle.std.proofs.lemmas.List.{length-set, length-map, get_or-map, get_or-set_other, ext_get_or}
use Rattle.std.proofs.lemmas.Grind.{get_or-set_at}
use Rattle.p3_lanes.proofs.lane_permutation.permuted_in_lane.Goals as goal

pub loop-i-preserved : goal.loop-i-preserved
loop-i-preserved g c =
    let lane = g.F.Packing.PackedValue.in_lane c.args.lane in
    let zero = g.F.PrimeCharacteristicRing.residues.of 0 in
    let cells = c.loop-i.cells in
    let state = c.args.state.now in
    let i = c.loop-i.i in
    let long = c.loop-i.invariant.0 in
    let whole = c.loop-i.invariant.1 in (
      length-set cells i c.lane.result ∙ long,
      whole,
      λ j below. elim (cases_eq j i) [
        | inl here ↦ get_or-set_at cells i j c.lane.result zero here (omega (arith, c.loop-i-test.true, long))
            ∙ c.lane.ensures
            ∙ sym (get_or-map lane state i c.index-state-i.result zero (omega (arith, c.loop-i-test.true, whole)))
            ∙ ap (λ k. slice_index_or (map lane state) k zero) (sym here)
        | inr other ↦ get_or-set_other cells i j c.lane.result zero other ∙ c.loop-i.invariant.2 j (omega (arith, below, other))
      ],
    )

-- all cells are those of the lane
pub returns : goal.returns
returns g c =
    let lane = g.F.Packing.PackedValue.in_lane c.args.lane in
    let cells = c.loop-i.cells in
    let state = c.args.state.now in
    let long = c.loop-i.invariant.0 in
    c.permute_mut.ensures ∙ ap (g.P.CryptographicPermutation.permutation c.args.permutation.now)
    (ext_get_or (g.F.PrimeCharacteristicRing.residues.of 0) cells (map lane state)
    (long ∙ sym c.loop-i.invariant.1 ∙ sym (length-map state lane))
    (λ j below. c.loop-i.invariant.2 j (omega (arith, below, long, c.loop-i-test.false))))
