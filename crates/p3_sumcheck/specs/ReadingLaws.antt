-- The reasons to refuse a reading step that is next: the proof has another shape, or the challenger or memory is
-- refused.
use Rattle.std.{specs.Prelude.refl, proofs.Common.{inl, inr}}
use Rattle.p3_challenger.specs.{Transcripts.IsNext, Driving.Driving, Reads.Reading, TranscriptLaws.next-not_refused}
use Rattle.p3_challenger.specs.TranscriptError.{TranscriptError, TheVariants.{BadProofShape, Challenger, InvalidKind}}
use Rattle.p3_challenger.specs.TranscriptError.TheVariants.{LabelTooLong, MismatchedBeginEnd, MissingBegin, MissingEnd}
use Rattle.p3_challenger.specs.{TranscriptError.TheVariants.{OutOfMemory, Pattern}, Verifying.RefusesToRead}
use Rattle.p3_sumcheck.specs.Sumchecks.{IsNoPatternFault}

pub next-reading_fault : {S Symbol A : Type 0} (r : Reading S Symbol A) (before after : Driving S)
    (e : TranscriptError) → IsNext before.transcript.playing r.interaction → RefusesToRead r before e after →
    IsNoPatternFault e
next-reading_fault r before after (MissingBegin info) next refuses = absurd refuses
next-reading_fault r before after (InvalidKind info) next refuses = absurd refuses
next-reading_fault r before after (MismatchedBeginEnd info) next refuses = absurd refuses
next-reading_fault r before after (MissingEnd info) next refuses = absurd refuses
next-reading_fault r before after (BadProofShape reason) next refuses = inl (reason.now, refl)
next-reading_fault r before after (Pattern e) next refuses =
    absurd (next-not_refused before.transcript.playing after.transcript.playing r.interaction (Pattern e) next
    refuses.0.playing)
next-reading_fault r before after (Challenger e) next refuses = inr tt
next-reading_fault r before after LabelTooLong next refuses = absurd refuses
next-reading_fault r before after OutOfMemory next refuses = inr tt
