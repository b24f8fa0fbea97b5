use Rattle.std.proofs.Common.{◌≡◌, [], ◌∷◌, slice_index, refl, ap, ◌*◌, ◌∙◌, arith}
use Rattle.sha2.specs.Sha256.{add_state, compress, rounds, schedule}
use Rattle.p3_sha256_lanes.specs.Lanes.{state_in}
use Rattle.p3_sha256_lanes.proofs.compression.compress.Goals as goal

pub rounds-init : goal.rounds-init
unfolding rounds
rounds-init c = λ lane is_lane block words. refl

pub rounds-preserved : goal.rounds-preserved
rounds-preserved c = λ lane is_lane block words.
    let h = state_in lane c.args.hash_values.now in
    let after = rounds h (schedule block 48) in
    let is = c.write_schedule.ensures lane is_lane block words in
    let s1 = c.four_rounds-variables.ensures lane is_lane block h is (c.rounds.invariant lane is_lane block words) in
    c.four_rounds-variables-in-rounds.ensures lane is_lane block h is (s1 ∙ ap after (omega arith)) ∙ ap after (omega arith)

pub returns : goal.returns
unfolding compress
returns c = λ lane is_lane block words.
    let done : 8 * c.rounds.turn ≡ 64 = omega (arith, c.rounds.auto.turn-end) in
    let h = state_in lane c.args.hash_values.now in
    let sums :
    slice_index c.sum.result lane ∷ slice_index c.sum-2.result lane
    ∷ slice_index c.sum-3.result lane ∷ slice_index c.sum-4.result lane
    ∷ slice_index c.sum-5.result lane ∷ slice_index c.sum-6.result lane
    ∷ slice_index c.sum-7.result lane ∷ slice_index c.sum-8.result lane ∷ []
    ≡ add_state h (state_in lane c.rounds.variables) =
    λ i.
    c.sum.ensures lane is_lane i ∷ c.sum-2.ensures lane is_lane i
    ∷ c.sum-3.ensures lane is_lane i ∷ c.sum-4.ensures lane is_lane i
    ∷ c.sum-5.ensures lane is_lane i ∷ c.sum-6.ensures lane is_lane i
    ∷ c.sum-7.ensures lane is_lane i ∷ c.sum-8.ensures lane is_lane i ∷ [] in
    sums ∙ ap (add_state h) (rw done at (c.rounds.invariant lane is_lane block words))
