-- The next step, if it meets no limit, is refused only when out of memory.
use Rattle.std.proofs.Common.{◌≡◌, IsSome, refl}
use Rattle.p3_challenger_core.specs.declared.error.ChallengerError.TheVariants.{DrawLimit, NoWitness, TooLong}
use Rattle.p3_fs_core.specs.declared.error.TranscriptError.{TranscriptError, TheVariants.{Challenger, OutOfMemory}}
use Rattle.p3_driver_core.specs.Transcripts.{Meaning, Transcript, RefusesStep, IsNext}
use Rattle.p3_step_laws.specs.{CompletenessLaws.next-own_refusal, OneReason.TellsLimits}
use Rattle.p3_challenger_core.specs.declared.error.ChallengerError.TheVariants as challenger

pub next-only_memory : {S Symbol A : Type 0} (m : Meaning S Symbol A) → TellsLimits m.effect →
    (before after : Transcript S) (e : TranscriptError) → IsNext before.playing m.interaction → m.effect.fits →
    IsSome (m.effect.gives before.challenger) → RefusesStep m before e after → e ≡ OutOfMemory
next-only_memory m tells before after (Challenger challenger.OutOfMemory) next fits gives refuses = absurd refuses
next-only_memory m tells before after (Challenger DrawLimit) next fits gives refuses =
    let none = tells.limit before.challenger after.challenger refuses.leaves in
    let some = rw none at gives in absurd (cc)
next-only_memory m tells before after (Challenger NoWitness) next fits gives refuses =
    absurd (tells.witness before.challenger after.challenger refuses.leaves)
next-only_memory m tells before after (Challenger TooLong) next fits gives refuses =
    absurd (tells.too_long before.challenger after.challenger refuses.leaves fits)
next-only_memory m tells before after OutOfMemory next fits gives refuses = refl
next-only_memory m tells before after e next fits gives refuses =
    absurd (next-own_refusal m before after e next refuses)
