-- A verifier that stands before the small protocol, with the bytes of a run next.
use Rattle.std.proofs.Common.{◌≡◌, ℕ, ◌+◌, false, List, [], ◌∷◌, ◌++◌, Option, Some, slice_get, codes, append_assoc}
use Rattle.std.proofs.Common.{append-nil, length, Result, Ok, Err, OnOk, refl, ap, sym, subst, ◌∙◌}
use Rattle.p3_challenger.specs.AheadLaws.{next-at}
use Rattle.p3_challenger.specs.{Playing.Playing, TranscriptError.TheVariants.OutOfMemory}
use Rattle.p3_challenger.specs.{CompletenessLaws.step-completes, Verifying.{EndsReading, Receives, RefusesToRead}}
use Rattle.p3_challenger.specs.{PatternSteps.PatternSteps, OneReason.{OnlyMemoryRefuses, OnlyMemoryRefusesToRead}}
use Rattle.p3_challenger.specs.Transcripts.{IsNext, Meaning, PlaysStep, RefusesStep, Transcript, bytes_step, step_on}
use Rattle.p3_challenger.specs.{Encoding.Encoding, Rejecting.{Rule, drawn_rejecting, taken, keeps, go_on}}
use Rattle.p3_challenger.specs.{Driving.Driving, Length.TheVariants.{Fixed, Scalar}, Completeness.Completes}
use Rattle.p3_challenger.specs.{TranscriptError.TranscriptError, Sampling.Sampling, Meanings.{sent, drawn, hinted}}
use Rattle.p3_challenger.specs.{Observation.Observation, Recording.{Recording, Records}, Steps.Step}
use Rattle.p3_challenger.specs.{Kind.TheVariants.{Challenge, Hint, Message}, Reads.{Reading, hint_received}}
use Rattle.p3_field.specs.BabyBearResidues.{BabyBear}
use Rattle.uses.specs.Protocol.{IsAhead, IsDivisor, IsPast, IsRun, after_line, bytes_of, element_step, steps_of_line}
use Rattle.uses.specs.declared.protocol.Claim.{Claim}

-- ---- the protocol

module _ {S Symbol : Type 0} (o : Observation S Symbol BabyBear) (places divisors : Sampling S BabyBear)
    (e : Encoding BabyBear) (digest : List ℕ) (v : Driving S) (claim : Claim) (rest : List ℕ)
    (ahead : IsAhead o places divisors e digest v claim rest) where
  -- the states after slope, offset and place
  abbrev pub after_slope : Transcript S
  after_slope =
      record { challenger = o.observed v.transcript.challenger claim.slope; playing = step_on v.transcript.playing }

  abbrev pub after_offset : Transcript S
  after_offset =
      record { challenger = after_line o v.transcript.challenger claim; playing = step_on after_slope.playing }

  abbrev pub after_place : Transcript S
  after_place =
      record { challenger = places.after after_offset.challenger; playing = step_on after_offset.playing }

  -- the bytes after slope and offset
  abbrev pub quotient_on : List ℕ
  quotient_on = e.wire claim.quotient ++ rest

  abbrev pub offset_on : List ℕ
  offset_on = e.wire claim.offset ++ quotient_on

  pub begins : v ≡ record { transcript = v.transcript; bytes = e.wire claim.slope ++ offset_on }
  begins =
      let encoded = ahead.unread
      ∙ append_assoc (e.wire claim.slope) (e.wire claim.offset ++ e.wire claim.quotient) rest
      ∙ ap (λ l. e.wire claim.slope ++ l) (append_assoc (e.wire claim.offset) (e.wire claim.quotient) rest) in
      λ i. record { transcript = v.transcript; bytes = encoded i }

  line_at : (k : ℕ) (p : Playing) → p.pattern ≡ v.transcript.playing.pattern → p.position ≡ k → p.finished ≡ false →
      (s : Step) →
      slice_get (steps_of_line digest) k ≡ Some s → IsNext p s
  line_at k p same position going s at =
      next-at p (steps_of_line digest) k s (ap (λ it. it.steps) same ∙ ahead.steps) position going at

  pub sends-slope : PlaysStep (sent (element_step digest Message (codes "slope") Scalar) o e claim.slope) v.transcript
      claim.slope
      after_slope
  sends-slope =
      record {
        is_next = line_at 0 v.transcript.playing refl ahead.position ahead.going _ refl;
        fits = tt;
        gives = refl;
        challenger = refl;
        playing = refl;
      }

  pub sends-offset : PlaysStep (sent (element_step digest Message (codes "offset") Scalar) o e claim.offset) after_slope
      claim.offset after_offset
  sends-offset =
      record {
        is_next = line_at 1 after_slope.playing refl (ap (λ k. k + 1) ahead.position) refl _ refl;
        fits = tt;
        gives = refl;
        challenger = refl;
        playing = refl;
      }

  pub draws-place : PlaysStep {Symbol = Symbol} (drawn (element_step digest Challenge (codes "place") Scalar) places)
      after_offset claim.place after_place
  draws-place =
      record {
        is_next = line_at 2 after_offset.playing refl (ap (λ k. k + 1 + 1) ahead.position) refl _ refl;
        fits = tt;
        gives = ahead.run.place;
        challenger = refl;
        playing = refl;
      }

  -- the divisor is next from there, and is drawn
  pub divisor-next : (transcript : Transcript S) → transcript ≡ after_place →
      IsNext transcript.playing (element_step digest Challenge (codes "divisor") (Fixed 1))
  divisor-next transcript at =
      subst (λ (t : Transcript S). IsNext t.playing (element_step digest Challenge (codes "divisor") (Fixed 1)))
      (sym at)
      (line_at 3 after_place.playing refl (ap (λ k. k + 1 + 1 + 1) ahead.position) refl _ refl)

  pub divisor-drawn : (transcript : Transcript S) → transcript ≡ after_place →
      IsDivisor divisors transcript.challenger claim.divisor
  divisor-drawn transcript at =
      subst (λ (t : Transcript S). IsDivisor divisors t.challenger claim.divisor) (sym at) ahead.run.divisor

  pub sends-quotient : (transcript : Transcript S) → transcript.playing ≡ step_on after_place.playing →
      length (e.wire claim.quotient) ≡ 4 →
      PlaysStep {Symbol = Symbol} (hinted (codes "quotient") (e.wire claim.quotient)) transcript (e.wire claim.quotient)
      (record { challenger = transcript.challenger; playing = step_on transcript.playing })
  sends-quotient transcript at wide =
      let steps = ap (λ (p : Playing). p.pattern) at in
      let position : transcript.playing.position ≡ 4
      = ap (λ (p : Playing). p.position) at ∙ ap (λ k. k + 1 + 1 + 1 + 1) ahead.position in
      let going = ap (λ (p : Playing). p.finished) at in
      record {
        is_next = line_at 4 transcript.playing steps position going _
            (ap (λ n. Some (bytes_step Hint (codes "quotient") (Fixed n))) (sym wide));
        fits = tt;
        gives = refl;
        challenger = refl;
        playing = refl;
      }

  pub ends-past : (transcript : Transcript S) (end : Driving S) → transcript.playing ≡ step_on after_place.playing →
      end ≡ record {
        transcript = record { challenger = transcript.challenger; playing = step_on transcript.playing };
        bytes = rest;
      } → IsPast v rest end
  ends-past transcript end at is =
      let playing = ap (λ (w : Driving S). w.transcript.playing) is ∙ ap step_on at in
      record {
        pattern = ap (λ (p : Playing). p.pattern) playing;
        position = ap (λ (p : Playing). p.position) playing ∙ ap (λ k. k + 1 + 1 + 1 + 1 + 1) ahead.position;
        going = ap (λ (p : Playing). p.finished) playing;
        unread = ap (λ (w : Driving S). w.bytes) is;
      }

-- ---- the pattern

-- steps that were recorded one after another
pub recorded-five : (start one two three four end : Recording) (a b c d f : Step) → Records start a one →
    Records one b two →
    Records two c three → Records three d four → Records four f end →
    end.steps ≡ start.steps ++ (a ∷ b ∷ c ∷ d ∷ f ∷ [])
recorded-five start one two three four end a b c d f first second third fourth last =
    let steps : Recording → List Step = λ r. r.steps in
    ap steps last.recorded
    ∙ ap (λ l. l ++ (f ∷ [])) (ap steps fourth.recorded
    ∙ ap (λ l. l ++ (d ∷ [])) (ap steps third.recorded
    ∙ ap (λ l. l ++ (c ∷ [])) (ap steps second.recorded
    ∙ ap (λ l. l ++ (b ∷ [])) (ap steps first.recorded)
    ∙ append_assoc start.steps (a ∷ []) (b ∷ []))
    ∙ append_assoc start.steps (a ∷ b ∷ []) (c ∷ []))
    ∙ append_assoc start.steps (a ∷ b ∷ c ∷ []) (d ∷ []))
    ∙ append_assoc start.steps (a ∷ b ∷ c ∷ d ∷ []) (f ∷ [])

-- what follows of a call's being answered
pub once-ok : {R : Type 0} {P Q : Type 0} (r : Result R TranscriptError) → OnOk r P → (P → Q) → OnOk r Q
once-ok (Ok x) p then = then p
once-ok (Err e) p then = tt

-- a value that is given is one
pub one-given : {A : Type 0} (given : Option A) (x y : A) → given ≡ Some x → given ≡ Some y → x ≡ y
one-given {A = A} given x y is other = let both : ◌≡◌ {A = Option A} (Some x) (Some y) = sym is ∙ other in cc

-- a claim is its five numbers
pub same-claim : (a b : Claim) → a.slope ≡ b.slope → a.offset ≡ b.offset → a.place ≡ b.place → a.divisor ≡ b.divisor →
    a.quotient ≡ b.quotient → a ≡ b
same-claim a b slope offset place divisor quotient =
    λ i. record {
      slope = slope i;
      offset = offset i;
      place = place i;
      divisor = divisor i;
      quotient = quotient i;
    }

module _ {S Symbol : Type 0} (o : Observation S Symbol BabyBear) (places divisors : Sampling S BabyBear)
    (e : Encoding BabyBear) (digest : List ℕ) where
  -- a verifier that has just begun stands before the protocol, where its bytes are those of a run
  pub ahead-of : (v start : Driving S) (p : PatternSteps) (s : S) (proof : List ℕ) (claim : Claim) → v ≡ start →
      start.transcript.playing ≡ record { pattern = p; position = 0; finished = false } → start.bytes ≡ proof →
      p.steps ≡ steps_of_line digest → v.transcript.challenger ≡ s → IsRun o places divisors e s claim proof →
      IsAhead o places divisors e digest v claim []
  ahead-of v start p s proof claim is playing unread steps at run =
      let here = ap (λ (w : Driving S). w.transcript.playing) is ∙ playing in
      record {
        steps = ap (λ (q : Playing). q.pattern.steps) here ∙ steps;
        position = ap (λ (q : Playing). q.position) here;
        going = ap (λ (q : Playing). q.finished) here;
        run = subst (λ u. IsRun o places divisors e u claim (bytes_of e claim)) (sym at)
            (record { place = run.place; divisor = run.divisor; encoded = refl });
        unread = ap (λ (w : Driving S). w.bytes) is ∙ unread ∙ run.encoded ∙ sym (append-nil (bytes_of e claim));
      }

  -- one that has played it all ends
  pub ends-reading : (v after : Driving S) (claim : Claim) → IsAhead o places divisors e digest v claim [] →
      IsPast v [] after → EndsReading after
  ends-reading v after claim ahead past =
      let steps = ap (λ (p : PatternSteps). p.steps) past.pattern ∙ ahead.steps in
      record {
        played = record { going = past.going; end = past.position ∙ sym (ap length steps) };
        whole = past.unread;
      }
