use Rattle.std.proofs.Common.{◌≡◌, ◌∙◌, sym, arith, inl, inr}
use Rattle.std.proofs.lemmas.{List.{length-set}, Bool.cases_lt}
use Rattle.sha2.proofs.Schedule256.{slice_index-schedule_first}
use Rattle.p3_sha256_lanes.proofs.InLanes.{word_of_lane, words_in-set_same, words_in-set_other}
use Rattle.p3_sha256_lanes.proofs.compression.write_schedule.Goals as goal

pub block-preserved : goal.block-preserved
block-preserved c =
    let words = c.block.schedule in (
      length-set words c.block.i _ ∙ c.block.invariant.0,
      λ lane k low. elim (cases_lt k c.block.i) [
        | inl before ↦
            words_in-set_other lane words c.block.i k _ (omega arith) ∙ c.block.invariant.1 lane k before
        | inr after ↦
            let same : c.block.i ≡ k = omega arith in
            rw (← same) (
            words_in-set_same lane words c.block.i _ (omega arith)
            ∙ sym (word_of_lane lane c.args.words.now c.block.i (omega arith)))
      ],
    )

pub following-init : goal.following-init
following-init c = (
  c.block.invariant.0,
  λ lane is_lane block words k low.
      c.block.invariant.1 lane k (omega arith) ∙ words k (omega (arith, low))
      ∙ sym (slice_index-schedule_first block 48 k (omega (arith, low))),
)

pub following-preserved : goal.following-preserved
following-preserved c = (
  omega arith,
  λ lane is_lane block given k low.
      let s1 = c.write_word.ensures lane is_lane block (c.following.invariant.1 lane is_lane block given) in
      let s2 = c.write_word-in-following.ensures lane is_lane block s1 in
      let s3 = c.write_word-in-following-2.ensures lane is_lane block (λ j below. s2 j (omega (arith, below))) in
      let s4 = c.write_word-in-following-3.ensures lane is_lane block (λ j below. s3 j (omega (arith, below))) in
      s4 k (omega (arith, low)),
)

pub returns : goal.returns
returns c = λ lane is_lane block words t low.
    c.following.invariant.1 lane is_lane block words t (omega (arith, low))
