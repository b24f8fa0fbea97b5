-- A step that a prover has played is refused only when out of memory.
use Rattle.std.proofs.Common.{◌≡◌, ℕ, List, ◌++◌, Ok, is_some, refl, ap}
use Rattle.p3_challenger_core.specs.declared.error.ChallengerError.{ChallengerError, TheVariants.{DrawLimit, NoWitness}}
use Rattle.p3_challenger_core.specs.declared.error.ChallengerError.TheVariants.{TooLong}
use Rattle.p3_fs_core.specs.declared.error.TranscriptError.{TranscriptError, TheVariants.{Challenger, OutOfMemory}}
use Rattle.p3_driver_core.specs.{Transcripts.{Meaning, Transcript, PlaysStep}, Reads.Reading, Driving.Driving}
use Rattle.p3_driver_core.specs.Verifying.{RefusesToRead}
use Rattle.p3_step_laws.specs.{CompletenessLaws.read_back-completes, ReadBack.ReadsBack, MemoryLaws.next-only_memory}
use Rattle.p3_step_laws.specs.OneReason.{TellsLimits, OnlyMemoryRefuses, OnlyMemoryRefusesToRead}
use Rattle.p3_challenger_core.specs.declared.error.ChallengerError.TheVariants as challenger

-- ---- a step that both play alike

pub only_memory : {S Symbol A : Type 0} (m : Meaning S Symbol A) → TellsLimits m.effect → OnlyMemoryRefuses m
only_memory m tells before after start end x e plays at refuses =
    next-only_memory m tells before end e plays.is_next plays.fits (ap is_some plays.gives) (rw at at refuses)

-- ---- a step that is mirrored

module _ {S Symbol A : Type 0} (m : Meaning S Symbol A) (r : Reading S Symbol A) (x : A) (mirrors : ReadsBack m r x)
    (same : r.effect x ≡ m.effect) (tells : TellsLimits m.effect) where
  module _ (before after : Transcript S) (rest : List ℕ) (end : Driving S) (plays : PlaysStep m before x after) where
    abbrev here : Driving S
    here = record { transcript = before; bytes = m.wire ++ rest }

    -- what the challenger refuses of the value that is read, it refuses of the value that was sent
    refused_of_sent : (e : ChallengerError) (value : A) → r.read (m.wire ++ rest) ≡ Ok (value, end.bytes) →
        (r.effect value).refuses e before.challenger end.transcript.challenger →
        m.effect.refuses e before.challenger end.transcript.challenger
    refused_of_sent e value read refuses =
        let back = mirrors.reads_back rest in
        let both : ◌≡◌ {A = A × List ℕ} (value, end.bytes) (x, rest) = cc in
        let is : value ≡ x = ap (λ p. p.0) both in rw (is, same) at refuses

    from_here : (e : TranscriptError) → RefusesToRead r here e end → e ≡ OutOfMemory
    from_here (Challenger challenger.OutOfMemory) refuses = absurd refuses
    from_here (Challenger DrawLimit) refuses =
        let none = tells.limit before.challenger end.transcript.challenger
        (refused_of_sent DrawLimit refuses.value refuses.read refuses.abandons.leaves) in
        let some = plays.gives in absurd (cc)
    from_here (Challenger NoWitness) refuses =
        absurd (tells.witness before.challenger end.transcript.challenger
        (refused_of_sent NoWitness refuses.value refuses.read refuses.abandons.leaves))
    from_here (Challenger TooLong) refuses =
        absurd (tells.too_long before.challenger end.transcript.challenger
        (refused_of_sent TooLong refuses.value refuses.read refuses.abandons.leaves) plays.fits)
    from_here OutOfMemory refuses = refl
    from_here e refuses =
        absurd ((read_back-completes m r x mirrors).refuses before after rest here end e plays refl refuses)

  pub only_memory_to_read : OnlyMemoryRefusesToRead m r x
  only_memory_to_read before after rest start end e plays at refuses =
      from_here before after rest end plays e (rw at at refuses)
