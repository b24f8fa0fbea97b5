-- A witness that a prover has found passes the verifier's check.
use Rattle.std.proofs.Common.{◌≡◌, List, ◌++◌, ℕ, refl, ap, inl, inr, rules}
use Rattle.p3_fs_core.specs.{Encoding.{Encoding, IsEncoding}, declared.error.TranscriptError.TranscriptError}
use Rattle.p3_driver_core.specs.{Driving.Driving, Transcripts.{Transcript, PlaysStep}, WorkingLaws.where_passed-true}
use Rattle.p3_driver_core.specs.{Reads.received_work, Verifying.FailsWork, Working.{Work, checking, sent_work}}
use Rattle.p3_step_laws.{proofs.{OnlyMemory.only_memory_to_read, ReadBack.value-back}, specs.OneReason.TellsLimits}
use Rattle.p3_step_laws.specs.{Completeness.CompletesWork, CompletenessLaws.read_back-completes, ReadBack.ReadsBack}

module _ {S Symbol W : Type 0} (work : Work S Symbol W) (x : W) (enc : Encoding W) (encodes : IsEncoding enc) where
  -- a witness that is sent is received
  work-mirrored : ReadsBack (sent_work work enc x) (received_work work enc) x
  work-mirrored = search (rules, value-back, encodes)

  -- the verifier's check is the prover's, of the same witness
  not_failed : (before after : Transcript S) (rest : List ℕ) (start end : Driving S) (e : TranscriptError) →
      PlaysStep (sent_work work enc x) before x after →
      start ≡ record { transcript = before; bytes = enc.wire x ++ rest } → FailsWork work enc start e end → ⊥
  not_failed before after rest start end e plays stands fails =
      let passes = where_passed-true x x ((work.check x).sampled before.challenger) plays.gives in
      let failed = rw stands at fails.fails.abandons.leaves.0 in
      let read = rw stands at fails.read in
      let back = value-back {S = S} enc encodes x rest in
      let both : ◌≡◌ {A = W × List ℕ} (fails.witness, end.bytes) (x, rest) = cc in
      let same : fails.witness ≡ x = ap (λ p. p.0) both in cc

  pub work-followed : TellsLimits (checking work x) → CompletesWork work enc x
  work-followed tells =
      record {
        completes = read_back-completes _ _ _ work-mirrored;
        refuses = λ before after rest start end e plays stands. elim [
          | inl refuses ↦
              only_memory_to_read _ _ _ work-mirrored refl tells before after rest start end e plays stands refuses
          | inr fails ↦ absurd (not_failed before after rest start end e plays stands fails)
        ];
      }
