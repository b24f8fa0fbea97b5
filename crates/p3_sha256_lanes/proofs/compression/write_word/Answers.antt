use Rattle.std.proofs.Common.{◌≡◌, ◌-◌, ◌∙◌, sym, refl, arith, inl, inr}
use Rattle.std.proofs.lemmas.Bool.{cases_lt}
use Rattle.sha2.specs.Sha256.{schedule, next_word}
use Rattle.sha2.proofs.Schedule256.{slice_index-schedule_next}
use Rattle.p3_sha256_lanes.specs.Lanes.{words_in}
use Rattle.p3_sha256_lanes.proofs.InLanes.{words_in-set_same, words_in-set_other}
use Rattle.p3_sha256_lanes.proofs.compression.write_word.Goals as goal

pub returns : goal.returns
returns c = λ lane is_lane block held k low.
    let words = c.args.words.now in
    let t = c.args.t in
    elim (cases_lt k t) [
      | inl before ↦ words_in-set_other lane words t k _ (omega arith) ∙ held k before
      | inr after ↦
          let same : t ≡ k = omega arith in
          let next : next_word (words_in lane words) t ≡ next_word (schedule block 48) t =
          rw (
            held (t - 2) (omega arith),
            held (t - 7) (omega arith),
            held (t - 15) (omega arith),
            held (t - 16) (omega arith),
          ) refl in
          rw (← same) (
          words_in-set_same lane words t _ (omega arith)
          ∙ c.schedule_word.ensures lane is_lane ∙ next
          ∙ sym (slice_index-schedule_next block 48 t (omega arith) (omega arith)))
    ]
