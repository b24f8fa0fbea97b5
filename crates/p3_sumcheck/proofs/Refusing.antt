-- Where the rounds are next, a verifier refuses none for the sake of the pattern.
use Rattle.std.{proofs.Common.{◌≡◌, ℕ, ◌+◌, ◌-◌, inl, inr, suc, length, arith, Result, Err}, specs.Result.IfErr}
use Rattle.p3_challenger.specs.{CompletenessLaws.next-own_refusal, Driving.Driving, TranscriptError.TranscriptError}
use Rattle.p3_challenger.specs.{TranscriptLaws.next-first, Transcripts.AreNext}
use Rattle.p3_sumcheck.specs.Sumchecks.{IsNoPatternFault, read_pair, round_steps, Refuses, RefusesRound, Sumcheck}
use Rattle.p3_sumcheck.{specs.{Sumchecks.drawn_challenge, ReadingLaws.next-reading_fault}, proofs.Reading.reads-plays}
use Rattle.p3_sumcheck.{specs.declared.error.SumcheckError.SumcheckError, proofs.Declaring.{rounds-left, steps_of}}
use Rattle.p3_sumcheck.specs.declared.error.SumcheckError.TheVariants as fault

-- a step of it that was refused is refused so
abbrev IsStepFault : SumcheckError → Type 0
IsStepFault (fault.Round i) = Unit {0}
IsStepFault (fault.Transcript e) = IsNoPatternFault e

module _ {S Symbol F : Type 0} (m : Sumcheck S Symbol F) where
  round-fault : (claim : F) (i : ℕ) (before after : Driving S) (e : SumcheckError) →
      AreNext (round_steps m.field) before.transcript.playing → RefusesRound m claim i before e after → IsStepFault e
  round-fault claim i before after (fault.Round j) next refuses = tt
  round-fault claim i before after (fault.Transcript e) next refuses = elim refuses [
    | inl unread ↦ next-reading_fault (read_pair m) before after e next.0 unread
    | inr undrawn ↦
        inr (next-own_refusal (drawn_challenge m) undrawn.2.transcript after.transcript e
        (rw undrawn.3.plays.playing next.1.0) undrawn.5)
  ]

  refusal-fault : (claim : F) (n : ℕ) (before after : Driving S) (e : SumcheckError) →
      AreNext (steps_of m n) before.transcript.playing → Refuses m claim n before e after → IsStepFault e
  refusal-fault claim n before after e next refuses = elim refuses.refuses [
    | inr memory ↦ rw memory.1 (inr tt)
    | inl round ↦
        let done = length refuses.rounds in
        let left = n - done - 1 in
        let is : n ≡ done + suc left = omega (arith, round.0) in
        round-fault refuses.current done refuses.here after e
        (next-first (round_steps m.field) (steps_of m left) _
        (rounds-left m n (suc left) before.transcript _ refuses.rounds is next
        (reads-plays m before refuses.rounds refuses.here refuses.accepts.reads))) round.1
  ]

  -- so of a verifier's answer
  pub faults : {R : Type 0} (claim : F) (n : ℕ) (before after : Driving S) (result : Result R SumcheckError) →
      AreNext (steps_of m n) before.transcript.playing → IfErr result (λ e. Refuses m claim n before e after) →
      (e : TranscriptError) → result ≡ Err (fault.Transcript e) →
      IsNoPatternFault e
  faults claim n before after result next refuses e is =
      refusal-fault claim n before after (fault.Transcript e) next (rw is at refuses)
