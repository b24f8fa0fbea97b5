-- Two sums in one transcript, as a verifier reads them of any bytes.
use Rattle.std.proofs.Common.{◌≡◌, ℕ, ◌<◌, List, [], inl, inr, refl, sym, ap, subst, ◌∙◌, rules}
use Rattle.p3_challenger.specs.{Driving.Driving, Reading.AreBytes, Verifying.{EndsReading, Receives, RefusesEnd}}
use Rattle.p3_challenger.specs.{ReadBack.{AnyValue, OnlyReads}, Playing.IsPlayed, Reads.{Reading, received}}
use Rattle.p3_challenger.specs.{Rounds.steps_of_rounds, PatternSteps.PatternSteps}
use Rattle.p3_challenger.specs.TranscriptError.TheVariants.{BadProofShape, Challenger, InvalidKind, LabelTooLong}
use Rattle.p3_challenger.specs.TranscriptError.TheVariants.{MismatchedBeginEnd, MissingBegin, MissingEnd, OutOfMemory}
use Rattle.p3_challenger.specs.{TranscriptError.{TheVariants.Pattern, TranscriptError}, TranscriptLaws.played-ends}
use Rattle.p3_challenger.specs.{Transcripts.{AreNext, steps_on}, RoundLaws.listed-played, Steps.Step}
use Rattle.p3_sumcheck.specs.Sumchecks.{IsNoPatternFault, Accepts, Refuses, Sumcheck, challenges_of, round_steps}
use Rattle.p3_sumcheck.specs.declared.{error.SumcheckError.SumcheckError, round.Round.Round}
use Rattle.uses.specs.{declared.two_sums.Reduced.Reduced, TwoSums.{IsSumcheckFault, with_bytes, AcceptsTwo, ReadsSum}}
use Rattle.uses.{specs.TwoSums.{ReadsTwo, ReadsValue, begun, sent_sum, steps_of_sum, sum_step}, proofs.TwoSums.all-next}
use Rattle.p3_sumcheck.specs.declared.error.SumcheckError.TheVariants as fault

-- ---- the pattern

module _ {S : Type 0} (steps : List Step) (challenger : S) (pattern : PatternSteps) (proof : List ℕ)
    (v : Driving S) (is : v ≡ with_bytes (begun challenger pattern) proof) (has : pattern.steps ≡ steps) where
  -- a driver that has begun has all steps next
  pub begun-next : AreNext steps v.transcript.playing
  begun-next =
      subst (λ (d : Driving S). AreNext steps d.transcript.playing) (sym is)
      (all-next steps (begun challenger pattern).transcript.playing has refl refl)

  -- and one that has passed them has played all
  pub passed-played : (end : Driving S) → end.transcript.playing ≡ steps_on steps v.transcript.playing →
      IsPlayed end.transcript.playing
  passed-played end passed =
      let all = passed ∙ ap (λ (d : Driving S). steps_on steps d.transcript.playing) is in
      subst IsPlayed (sym all) (listed-played [] steps (begun challenger pattern).transcript.playing has refl refl)

-- the end is then refused for the sake of the proof alone
pub end-fault : {S : Type 0} (v : Driving S) (e : TranscriptError) → IsPlayed v.transcript.playing → RefusesEnd v e →
    IsNoPatternFault e
end-fault v (MissingBegin info) played refuses = absurd refuses
end-fault v (InvalidKind info) played refuses = absurd refuses
end-fault v (MismatchedBeginEnd info) played refuses = absurd refuses
end-fault v (MissingEnd info) played refuses = absurd refuses
end-fault v (BadProofShape reason) played refuses = inl (reason.now, refl)
end-fault v (Pattern e) played refuses = absurd (played-ends v.transcript.playing (Pattern e) played refuses)
end-fault v (Challenger e) played refuses = inr tt
end-fault v LabelTooLong played refuses = absurd refuses
end-fault v OutOfMemory played refuses = inr tt

-- ---- what is read

module _ {S Symbol F : Type 0} (m : Sumcheck S Symbol F) where
  abbrev pub read_sum : Reading S Symbol F
  read_sum = received (sum_step m.field) m.observation m.encoding

  value-read : OnlyReads read_sum AnyValue (λ x. sent_sum m x) → (before here : Driving S) (x : F) →
      AreBytes before.bytes → Receives read_sum before x here → ReadsValue m x before here
  value-read encoded before here x are receives =
      record {
        plays = record {
          is_next = receives.is_next;
          fits = receives.fits;
          gives = receives.gives;
          challenger = receives.challenger;
          playing = receives.playing;
        };
        bytes = encoded.encoded before.bytes x here.bytes are receives.read;
      }

  pub sum-read : OnlyReads read_sum AnyValue (λ x. sent_sum m x) → (n : ℕ) (before here after : Driving S) (x : F)
      (read : Reduced F) → AreBytes before.bytes → Receives read_sum before x here → read.sum ≡ x →
      (played : List (Round F)) × (read.point.items ≡ challenges_of played)
      × Accepts m read.sum n here played read.value after → ReadsSum m n read before after
  sum-read encoded n before here after x read are receives is rounds =
      record {
        rounds = rounds.0;
        here = here;
        sum = subst (λ y. ReadsValue m y before here) (sym is) (value-read encoded before here x are receives);
        accepts = rounds.2;
        point = rounds.1;
      }

  -- the rounds are next after the sum, and both are passed
  pub sum-then : (n : ℕ) (before here : Driving S) (x : F) → AreNext (steps_of_sum m.field n) before.transcript.playing →
      Receives read_sum before x here → AreNext (steps_of_rounds (round_steps m.field) n) here.transcript.playing
  sum-then n before here x next receives =
      subst (AreNext (steps_of_rounds (round_steps m.field) n)) (sym receives.playing) next.1

  pub sum-passes : (n : ℕ) (before here after : Driving S) (x : F) → Receives read_sum before x here →
      after.transcript.playing ≡ steps_on (steps_of_rounds (round_steps m.field) n) here.transcript.playing →
      after.transcript.playing ≡ steps_on (steps_of_sum m.field n) before.transcript.playing
  sum-passes n before here after x receives passed =
      passed ∙ ap (steps_on (steps_of_rounds (round_steps m.field) n)) receives.playing

  pub two-accepted : (n : ℕ) (one other : Reduced F) (challenger : S) (pattern : PatternSteps) (proof : List ℕ)
      (v end : Driving S) → v ≡ with_bytes (begun challenger pattern) proof → ReadsTwo m n one other v end →
      EndsReading end → AcceptsTwo m n one other challenger pattern proof
  two-accepted n one other challenger pattern proof v end is reads ends =
      record { end = end; reads = subst (λ d. ReadsTwo m n one other d end) is reads; ends = ends }

  -- what a sumcheck whose steps are next is refused for
  pub sumcheck-fault : (claim : F) (n : ℕ) (before after : Driving S) (e : SumcheckError) →
      Refuses m claim n before e after →
      ((f : TranscriptError) → e ≡ fault.Transcript f → IsNoPatternFault f) →
      IsSumcheckFault n e
  sumcheck-fault claim n before after (fault.Transcript f) refuses step = step f refl
  sumcheck-fault claim n before after (fault.Round i) refuses step = elim refuses.refuses [
    | inl round ↦ subst (λ k. k < n) (sym round.1.0) round.0
    | inr memory ↦ search (rules, memory.1)
  ]
