use Rattle.std.proofs.Common.{◌≡◌, ◌*◌, ◌+◌, ◌∙◌, slice_index, slice_range, sym, inl, inr, ap, arith, []}
use Rattle.std.proofs.lemmas.{List.{length-set, get_or-set_other, get_or-set_same}, Bool.cases_lt}
use Rattle.sha2.specs.Sha256.{padded_message}
use Rattle.p3_sha256_lanes.proofs.InLanes.{word_of_lane, word_of_block}
use Rattle.p3_sha256_lanes.proofs.digests.block_words.Goals as goal

pub whole-preserved : goal.whole-preserved
whole-preserved c =
    let words = c.whole.words in
    let word = c.message_words.result in (
      length-set words c.whole.i word ∙ c.whole.invariant.0,
      λ lane is_lane i low. elim (cases_lt i c.whole.i) [
        | inl before ↦
            ap (λ x. slice_index x lane) (get_or-set_other words c.whole.i i word [] (omega arith))
            ∙ c.whole.invariant.1 lane is_lane i before
        | inr after ↦
            let same : c.whole.i ≡ i = omega arith in
            rw (← same) (
            ap (λ x. slice_index x lane) (get_or-set_same words c.whole.i word [] (omega arith))
            ∙ c.message_words.ensures lane is_lane
            )
      ],
    )

pub padded-preserved : goal.padded-preserved
padded-preserved c =
    let words = c.padded.words in
    let word = c.padded_words.result in (
      length-set words c.padded.i word ∙ c.padded.invariant.0,
      λ lane is_lane i low. elim (cases_lt i c.padded.i) [
        | inl before ↦
            ap (λ x. slice_index x lane) (get_or-set_other words c.padded.i i word [] (omega arith))
            ∙ c.padded.invariant.1 lane is_lane i before
        | inr after ↦
            let same : c.padded.i ≡ i = omega arith in
            rw (← same) (
            ap (λ x. slice_index x lane) (get_or-set_same words c.padded.i word [] (omega arith))
            ∙ c.padded_words.ensures lane is_lane
            )
      ],
    )

pub returns : goal.returns
returns c = λ lane is_lane i low.
    let start = lane * c.args.each in
    let padded = padded_message (slice_range c.args.messages.now start (start + c.args.each)) in
    word_of_lane lane c.padded.words i (omega arith)
    ∙ c.padded.invariant.1 lane is_lane i (omega arith)
    ∙ sym (word_of_block padded c.args.index i low)
