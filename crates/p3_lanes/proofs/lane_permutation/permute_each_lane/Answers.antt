use Rattle.std.proofs.{Common.{◌∙◌, map, inl, inr, sym, ap, arith}, lemmas.Bool.cases_eq}
use Rattle.p3_lanes.proofs.lane_permutation.permute_each_lane.Goals as goal

pub loop-lane-preserved : goal.loop-lane-preserved
loop-lane-preserved g c =
    let in_lane = g.F.Packing.PackedValue.in_lane in
    let permute = g.P.CryptographicPermutation.permutation c.args.permutation.now in
    let lane = c.loop-lane.lane in
    let new = c.put_in_lane.new.state in
    let old = c.args.state.now in
    let put = c.put_in_lane.ensures in (
      λ m lt below. elim (cases_eq m lane) [
        | inl here ↦ ap (λ k. map (in_lane k) new) here ∙ put.put ∙ c.permuted_in_lane-permuted.ensures
            ∙ ap permute (c.loop-lane.invariant.1 lane (omega (arith, c.loop-lane-test.true, c.WIDTH-lane-end.ensures)) (omega arith))
            ∙ ap (λ k. permute (map (in_lane k) old)) (sym here)
        | inr other ↦ put.others m lt other ∙ c.loop-lane.invariant.0 m lt (omega (arith, below, other))
      ],
      λ m lt from. put.others m lt (λ here. absurd (omega (arith, from, here))) ∙ c.loop-lane.invariant.1 m lt (omega (arith, from)),
    )
