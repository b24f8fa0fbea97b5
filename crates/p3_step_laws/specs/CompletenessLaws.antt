-- Laws of a verifier at a step that a prover has played.
use Rattle.std.proofs.{Common.{◌≡◌, ℕ, List, ◌++◌, true}, Common.ap}
use Rattle.p3_fs_core.specs.declared.error.{TranscriptError.TranscriptError, TranscriptError.TheVariants.OutOfMemory}
use Rattle.p3_fs_core.specs.declared.error.TranscriptError.TheVariants.{BadProofShape, Pattern, Challenger}
use Rattle.p3_patterns.specs.Playing.{Playing}
use Rattle.p3_driver_core.specs.{TranscriptLaws.{next-not_refused, played-ends}, Reads.Reading, Driving.Driving}
use Rattle.p3_driver_core.specs.Transcripts.{Meaning, Transcript, PlaysStep, RefusesStep, IsNext}
use Rattle.p3_driver_core.specs.Verifying.{Receives, RefusesToRead, EndsReading, RefusesEnd}
use Rattle.p3_step_laws.specs.{Completeness.{IsOwnRefusal, Completes, CompletesAlike}, ReadBack.ReadsBack}
use Rattle.p3_challenger_core.specs.declared.error.ChallengerError.TheVariants as challenger

-- ---- a step that is mirrored

module _ {S Symbol A : Type 0} (m : Meaning S Symbol A) (r : Reading S Symbol A) (x : A)
    (mirrors : ReadsBack m r x) where
  mirror-refuses : (before after : Transcript S) (rest : List ℕ) (start end : Driving S) (e : TranscriptError) →
      PlaysStep m before x after → start ≡ record { transcript = before; bytes = m.wire ++ rest } →
      RefusesToRead r start e end → IsOwnRefusal e
  mirror-refuses before after rest start end (BadProofShape reason) plays at refuses =
      let read = rw at at refuses.read in let back = mirrors.reads_back rest in absurd (cc)
  mirror-refuses before after rest start end (Pattern e) plays at refuses =
      next-not_refused before.playing end.transcript.playing r.interaction (Pattern e)
      (rw mirrors.interaction plays.is_next) (rw at at refuses.0.playing)
  mirror-refuses before after rest start end (Challenger e) plays at refuses = tt
  mirror-refuses before after rest start end OutOfMemory plays at refuses = tt
  mirror-refuses before after rest start end _ plays at refuses = refuses

  -- a mirrored step is completed
  pub read_back-completes : Completes m r x
  read_back-completes =
      record {
        receives = λ before after rest start end y plays at receives.
            let here : Receives r (record { transcript = before; bytes = m.wire ++ rest }) y end = rw at at receives in
            let back = mirrors.reads_back rest in
            let both : ◌≡◌ {A = A × List ℕ} (y, end.bytes) (x, rest) = cc in
            let value : y ≡ x = ap (λ p. p.0) both in
            let challenger : end.transcript.challenger ≡ after.challenger
            = cc (value, here.challenger, mirrors.after before.challenger, plays.challenger) in
            let playing : end.transcript.playing ≡ after.playing = cc (here.playing, plays.playing) in (
              value,
              λ i. record { transcript = record { challenger = challenger i; playing = playing i }; bytes = (both i).1 },
            );
        refuses = mirror-refuses;
      }

-- a reading step that is refused is the last one
pub unread-last : {S Symbol A : Type 0} (r : Reading S Symbol A) (before after : Driving S) (e : TranscriptError) →
    RefusesToRead r before e after → after.transcript.playing.finished ≡ true
unread-last r before after (BadProofShape reason) refuses = refuses.finished
unread-last r before after (Pattern e) refuses = ap (λ (p : Playing). p.finished) refuses.0.playing.finished
unread-last r before after (Challenger challenger.OutOfMemory) refuses = absurd refuses
unread-last r before after (Challenger _) refuses = refuses.abandons.finished
unread-last r before after OutOfMemory refuses = refuses.finished
unread-last r before after _ refuses = absurd refuses

-- ---- a step that both sides play from one state

module _ {S Symbol A : Type 0} (m : Meaning S Symbol A) where
  -- the next step is refused only by the challenger or for memory
  pub next-own_refusal : (before after : Transcript S) (e : TranscriptError) → IsNext before.playing m.interaction →
      RefusesStep m before e after → IsOwnRefusal e
  next-own_refusal before after (Pattern e) next refuses =
      next-not_refused before.playing after.playing m.interaction (Pattern e) next refuses.playing
  next-own_refusal before after (Challenger e) next refuses = tt
  next-own_refusal before after OutOfMemory next refuses = tt
  next-own_refusal before after _ next refuses = refuses

  -- every such step is completed, whatever it means
  pub step-completes : CompletesAlike m
  step-completes =
      record {
        plays = λ before after start end x y first at second.
            let here : PlaysStep m before y end = rw at at second in
            let value : y ≡ x = cc (here.gives, first.gives) in
            let challenger : end.challenger ≡ after.challenger = cc (here.challenger, first.challenger) in
            let playing : end.playing ≡ after.playing = cc (here.playing, first.playing) in
            (value, λ i. record { challenger = challenger i; playing = playing i });
        refuses = λ before after start end x e first at refuses.
            next-own_refusal before end e first.is_next (rw at at refuses);
      }

-- ---- the end

-- a verifier that has played all steps and read all bytes is not refused at the end
pub reading-ends : {S : Type 0} (v : Driving S) (e : TranscriptError) → EndsReading v → RefusesEnd v e → ⊥
reading-ends v (BadProofShape reason) ends refuses = refuses.1 ends.whole
reading-ends v (Pattern e) ends refuses = played-ends v.transcript.playing (Pattern e) ends.played refuses
reading-ends v _ ends refuses = refuses
