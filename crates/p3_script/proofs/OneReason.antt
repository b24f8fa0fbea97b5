-- Each side refuses a step of a script for one reason, by its shape.
use Rattle.std.proofs.Common.{◌⊎◌, ◌≤◌, ℕ, Option, inl, inr, arith}
use Rattle.p3_fs_core.specs.{Encoding.Encoding, declared.error.TranscriptError.TranscriptError}
use Rattle.p3_driver_core.specs.{Driving.Driving, Proving.{RefusesToWrite, RefusesLongList}}
use Rattle.p3_driver_core.specs.Transcripts.{Meaning, Transcript, RefusesStep, RefusesLength}
use Rattle.p3_driver_core.specs.Working.{Work, RefusesToGrind}
use Rattle.p3_step_laws.specs.OneReason.{TellOneReason}
use Rattle.p3_runs.specs.{Sides.{Refusing, RefusesToWriteWithin, Sides, refuses_some}, Values.Value}
use Rattle.p3_runs.specs.Sides.{RefusesToReadWork, sides_known, sides_sent, sides_ground}
use Rattle.p3_runs.specs.Stepping.{OrHalts, RefuseForOneReason}

-- being out of memory is no such error
halts-one_reason : {S : Type 0} (R : Refusing S) → TellOneReason R → TellOneReason (OrHalts R)
halts-one_reason R one = grind (arith, one)

-- what both sides know
pub known-one_reason : {S F EF : Type 0} (proving verifying : Refusing S) → TellOneReason proving →
    TellOneReason verifying → RefuseForOneReason (sides_known {F = F} {EF = EF} proving verifying)
known-one_reason proving verifying proves verifies =
    record {
      verifier = λ witness. halts-one_reason verifying verifies;
      prover = λ given. halts-one_reason proving proves;
    }

-- alike
pub same-one_reason : {S F EF : Type 0} (R : Refusing S) → TellOneReason R →
    RefuseForOneReason (sides_known {F = F} {EF = EF} R R)
same-one_reason R one = known-one_reason R R one one

-- what is sent
pub sent-one_reason : {S F EF A : Type 0} (found : Value F EF → Option A)
    (proving : A → Refusing S) (verifying : Refusing S) → ((x : A) → TellOneReason (proving x)) →
    TellOneReason verifying → RefuseForOneReason (sides_sent found proving verifying)
sent-one_reason found proving verifying proves verifies =
    record { verifier = λ witness. halts-one_reason verifying verifies; prover = λ given. grind (arith, proves) }

-- bytes are added
pub written : {S Symbol A : Type 0} (m : Meaning S Symbol A) → TellOneReason (RefusesStep m) →
    TellOneReason (RefusesToWrite m)
written m one start a b e f x y = one start.transcript a.transcript b.transcript e f x.refuses y.refuses

-- a list that may not be so long
abbrev WithinOrStep : {S : Type 0} → ℕ → ℕ → (Transcript S → TranscriptError → Transcript S → Type 0) →
    Transcript S → TranscriptError → Transcript S → Type 0
WithinOrStep len max Step before e after =
    RefusesLength len max before.playing e after.playing ⊎ ((len ≤ max) × Step before e after)

pub written_within : {S Symbol A : Type 0} (m : Meaning S Symbol A) (len max : ℕ) →
    TellOneReason (WithinOrStep len max (RefusesStep m)) → TellOneReason (RefusesToWriteWithin len max m)
written_within m len max one = grind (arith, one)

module _ {S : Type 0} (len max : ℕ) (Step : Transcript S → TranscriptError → Transcript S → Type 0) where
  abbrev KeptWithin : Refusing S
  KeptWithin before e after =
      RefusesLongList len max before e after ⊎ ((len ≤ max) × Step before.transcript e after.transcript)

  part : (before after : Driving S) (e : TranscriptError) → KeptWithin before e after →
      WithinOrStep len max Step before.transcript e after.transcript
  part before after e = elim [ inl long ↦ inl long.playing | inr refuses ↦ inr refuses ]

  pub kept_within : TellOneReason (WithinOrStep len max Step) → TellOneReason KeptWithin
  kept_within one start a b e f x y =
      one start.transcript a.transcript b.transcript e f (part start a e x) (part start b f y)

-- proof of work
pub witness-one_reason : {S Symbol F EF : Type 0} (work : Work S Symbol F) (may_run_out : S → Type 0) →
    TellOneReason (RefusesToGrind work may_run_out) → (enc : Encoding F) →
    TellOneReason (RefusesToReadWork work enc) → RefuseForOneReason (sides_ground {EF = EF} work enc may_run_out)
witness-one_reason work may_run_out ground enc read =
    record { verifier = λ witness. halts-one_reason _ read; prover = λ given. grind (arith, ground) }

-- whose witness a caller carries
pub carried-one_reason : {S F EF : Type 0} (sides : Sides S F EF) →
    ((given : Value F EF) → TellOneReason (sides.prover given)) →
    ((witness : Option F) → TellOneReason (sides.verifier witness)) → RefuseForOneReason sides
carried-one_reason sides proves verifies =
    record {
      verifier = λ witness. halts-one_reason _ (verifies witness);
      prover = λ given. halts-one_reason _
          (proves given);
    }

pub some-one_reason : {S A : Type 0} (refuses : A → Refusing S) → ((x : A) → TellOneReason (refuses x)) →
    (o : Option A) → TellOneReason (refuses_some refuses o)
some-one_reason refuses one o = grind (arith, one)
