use Rattle.std.proofs.Common.{◌≡◌, ℕ, List, [], ◌∷◌, slice_index, refl, ap, ◌∙◌}
use Rattle.std.proofs.lemmas.List.{get_or-replicate}
use Rattle.sha2.specs.Sha256.{add32, temp1, temp2}
use Rattle.p3_sha256_lanes.specs.Lanes.{state_in}
use Rattle.p3_sha256_lanes.proofs.compression.round.Goals as goal

pub returns : goal.returns
returns c = λ lane is_lane.
    let v : List ℕ = state_in lane c.args.variables in
    let t1 : ℕ = temp1 v c.args.constant (slice_index c.args.word lane) in
    let first : slice_index c.sum-temp1.result lane ≡ t1 =
    rw (
      c.sum-temp1.ensures lane is_lane,
      c.sum-3.ensures lane is_lane,
      c.sum-2.ensures lane is_lane,
      c.sum.ensures lane is_lane,
      c.big_sigma1.ensures lane is_lane,
      c.ch.ensures lane is_lane,
      get_or-replicate 4 lane c.args.constant 0 is_lane,
    )
    refl in
    let second : slice_index c.sum-temp2.result lane ≡ temp2 v =
    rw (c.sum-temp2.ensures lane is_lane, c.big_sigma0.ensures lane is_lane, c.maj.ensures lane is_lane) refl in
    let a : slice_index c.sum-4.result lane ≡ add32 t1 (temp2 v) =
    c.sum-4.ensures lane is_lane ∙ (λ i. add32 (first i) (second i)) in
    let e : slice_index c.sum-5.result lane ≡ add32 (slice_index v 3) t1 =
    c.sum-5.ensures lane is_lane ∙ ap (add32 (slice_index v 3)) first in
    λ i.
    a i ∷ slice_index v 0 ∷ slice_index v 1 ∷ slice_index v 2
    ∷ e i ∷ slice_index v 4 ∷ slice_index v 5 ∷ slice_index v 6 ∷ []
