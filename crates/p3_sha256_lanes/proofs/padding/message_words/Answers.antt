use Rattle.std.proofs.Common.{◌≡◌, ℕ, List, [], ◌∷◌, ◌+◌, ◌*◌, ◌∙◌, ap, slice_index, slice_range}
use Rattle.sha2.specs.Sha256.{padded_message, word_at}
use Rattle.p3_sha256_lanes.proofs.InLanes.{by_lane}
use Rattle.p3_sha256_lanes.proofs.padding.message_words.Goals as goal

pub returns : goal.returns
returns c =
    let each = c.args.each in
    let word : List ℕ → ℕ = λ message. word_at (padded_message message) c.args.place in
    let words : List ℕ =
    c.message_word.result ∷ c.message_word-2.result ∷ c.message_word-3.result ∷ c.message_word-4.result ∷ [] in
    by_lane
    (λ lane. slice_index words lane ≡ word (slice_range c.args.messages.now (lane * each) (lane * each + each)))
    (c.message_word.ensures ∙ ap word c.message_in_lane.ensures)
    (c.message_word-2.ensures ∙ ap word c.message_in_lane-2.ensures)
    (c.message_word-3.ensures ∙ ap word c.message_in_lane-3.ensures)
    (c.message_word-4.ensures ∙ ap word c.message_in_lane-4.ensures)
