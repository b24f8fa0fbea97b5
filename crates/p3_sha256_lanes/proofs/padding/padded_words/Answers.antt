use Rattle.std.proofs.Common.{◌≡◌, ℕ, List, [], ◌∷◌, ◌+◌, ◌*◌, ◌∙◌, ap, arith, slice_index, slice_range}
use Rattle.std.proofs.lemmas.List.{get_or-replicate}
use Rattle.sha2.specs.Sha256.{padded_message, word_at}
use Rattle.p3_sha256_lanes.proofs.InLanes.{by_lane, length-message, word_of_padding}
use Rattle.p3_sha256_lanes.proofs.padding.padded_words.Goals as goal

pub returns-then-place-each : goal.returns-then-place-each
returns-then-place-each c = λ lane is_lane.
    let each = c.args.each in
    let message = slice_range c.args.messages.now (lane * each) (lane * each + each) in
    let long = length-message c.args.messages.now each c.requires.whole lane is_lane in
    get_or-replicate 4 lane c.padding_word.result 0 is_lane
    ∙ c.padding_word.ensures
    ∙ word_of_padding message each c.args.place long (omega (arith, c.if-place-each.true))

pub returns : goal.returns
returns c =
    let each = c.args.each in
    let word : List ℕ → ℕ = λ message. word_at (padded_message message) c.args.place in
    let words : List ℕ =
    c.padded_word.result ∷ c.padded_word-2.result ∷ c.padded_word-3.result ∷ c.padded_word-4.result ∷ [] in
    by_lane
    (λ lane. slice_index words lane ≡ word (slice_range c.args.messages.now (lane * each) (lane * each + each)))
    (c.padded_word.ensures ∙ ap word c.message_in_lane.ensures)
    (c.padded_word-2.ensures ∙ ap word c.message_in_lane-2.ensures)
    (c.padded_word-3.ensures ∙ ap word c.message_in_lane-3.ensures)
    (c.padded_word-4.ensures ∙ ap word c.message_in_lane-4.ensures)
