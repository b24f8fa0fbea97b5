-- From one state, a step is refused for one reason.
use Rattle.std.proofs.Common.{ℕ, List, length, arith}
use Rattle.p3_challenger_core.specs.declared.error.ChallengerError.TheVariants.{DrawLimit, NoWitness}
use Rattle.p3_challenger_core.specs.Observation.{Observation}
use Rattle.p3_fs_core.specs.{Alphabet.Alphabet, Steps.Step}
use Rattle.p3_driver_core.specs.{Meanings.{observed, observed_bounded}, Reads.Reading, Verifying.RefusesToRead}
use Rattle.p3_driver_core.specs.Transcripts.{Meaning, RefusesStep}
use Rattle.p3_step_laws.specs.OneReason.{TellsLimits, TellOneReason, RefusesStepWithin}

-- a step of which nothing is too long
pub short-one_reason : {S Symbol A : Type 0} (m : Meaning S Symbol A) → TellsLimits m.effect → m.effect.fits →
    TellOneReason (RefusesStep m)
short-one_reason m tells fits = grind (arith, tells.too_long, tells.witness)

-- a step that feeds, whether or not it writes too
module _ {S Symbol A : Type 0} (step : Step) (o : Observation S Symbol A) where
  pub fed-one_reason : (x : A) → TellOneReason (RefusesStep (observed step o x))
  fed-one_reason x = grind arith

  module _ {I : Type 0} (a : Alphabet S Symbol I) (max : ℕ) (xs : List A) where
    pub counted-one_reason : TellOneReason (RefusesStep (observed_bounded step a max o xs))
    counted-one_reason = grind arith

    pub within-one_reason : TellOneReason (RefusesStepWithin (length xs) max (observed_bounded step a max o xs))
    within-one_reason = grind arith

-- a step that reads, where what is then done meets no limit but that it is too long
pub unread-one_reason : {S Symbol A : Type 0} (r : Reading S Symbol A) →
    ((x : A) (s t : S) → (r.effect x).refuses DrawLimit s t → ⊥) →
    ((x : A) (s t : S) → (r.effect x).refuses NoWitness s t → ⊥) → TellOneReason (RefusesToRead r)
unread-one_reason r limit witness = grind (arith, limit, witness)
