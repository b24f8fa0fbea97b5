-- Where a step of a script may be played, each side refuses it only when out of memory.
use Rattle.std.proofs.Common.{◌≡◌, ℕ, ◌≤◌, List, [], ◌∷◌, Option, Some, None, false, inl, inr, refl, ap, IsSome}
use Rattle.std.{proofs.Common.{is_some, arith}, specs.Option.option_map}
use Rattle.p3_field_core.specs.Residues.{IsResidues}
use Rattle.p3_grinding.specs.Checks.{IsLeast}
use Rattle.p3_fs_core.specs.{Encoding.Encoding, Steps.Step, declared.error.TranscriptError.TranscriptError}
use Rattle.p3_fs_core.specs.declared.error.TranscriptError.TheVariants.{OutOfMemory}
use Rattle.p3_driver_core.specs.{Reads.Reading, Working.{Work, RefusesToGrind, checking, where_passed}, Driving.Driving}
use Rattle.p3_driver_core.specs.{TranscriptLaws.next-not_refused, Proving.RefusesToWrite, Effects.{Effect, untouched}}
use Rattle.p3_driver_core.specs.Transcripts.{without_wire, step_on, Meaning, Transcript, PlaysStep, RefusesStep, IsNext}
use Rattle.p3_driver_core.specs.Verifying.{RefusesToRead}
use Rattle.p3_step_laws.specs.{Completeness.{CompletesWork, CompletesCarriedWork}, MemoryLaws.next-only_memory}
use Rattle.p3_step_laws.specs.OneReason.{TellsLimits, OnlyMemoryRefusesToRead}
use Rattle.p3_runs.specs.{Absorbed.Absorbed, Values.{Value, Challenge, Witness, IsNothing, witness_in, one_witness}}
use Rattle.p3_runs.specs.Plays.{no_challenge, Play, only_if, known, known_with, known_within, sends, sends_witness}
use Rattle.p3_runs.specs.Plays.{carries_witness}
use Rattle.p3_runs.specs.Sides.{Refusing, Sides, refuses_some, sides_alike, sides_known, sides_sent, sides_ground}
use Rattle.p3_runs.specs.Sides.{sides_carried, RefusesToWriteWithin, RefusesWithin, RefusesCarriedWithin}
use Rattle.p3_runs.specs.Sides.{RefusesCarriedWork, RefusesToReadWork}
use Rattle.p3_runs.specs.Stepping.{IsTakenWherePossible, IsSentWherePossible, CanTake}
use Rattle.p3_script.proofs.Canonical.{fitting}

-- what is made of something is of something
mapped-some : {A T : Type 0} (f : A → T) (o : Option A) → IsSome (option_map f o) → IsSome o
mapped-some f o h = grind arith

-- ---- what both sides know

-- each side refuses a step only when out of memory where it may be played
pub record IsRefusedForMemory {S Symbol F EF O : Type 0} (play : Play S Symbol F EF O) (sides : Sides S F EF) : Type 0 where
  pub taken : IsTakenWherePossible play sides
  pub sent : IsSentWherePossible play sides

module _ {S Symbol F EF O A : Type 0} (condition : Type 0) (i : Step) (Fits : Value F EF → Type 0)
    (f : A → Option (Challenge F EF)) (E : Effect S Symbol A) (absorbed : Absorbed F O) (tells : TellsLimits E) where
  -- a side refuses it as any step is refused, where it is next
  abbrev AsStep : Refusing S → Type 0
  AsStep R =
      (v : Value F EF) (before after : Driving S) (e : TranscriptError) → Fits v →
      IsNext before.transcript.playing i → R before e after →
      RefusesStep (without_wire i E) before.transcript e after.transcript

  for_memory : (R : Refusing S) → AsStep R → (v : Value F EF) (before after : Driving S) (e : TranscriptError) →
      Fits v → IsNext before.transcript.playing i → E.fits →
      IsSome (option_map f (E.gives before.transcript.challenger)) → R before e after → e ≡ OutOfMemory
  for_memory R same v before after e fits next short gives refuses =
      next-only_memory (without_wire i E) tells before.transcript after.transcript e next short
      (mapped-some f (E.gives before.transcript.challenger) gives) (same v before after e fits next refuses)

  pub known_with-refused : (proving verifying : Refusing S) → AsStep proving → AsStep verifying →
      IsRefusedForMemory (only_if condition (known_with i Fits f E absorbed)) (sides_known proving verifying)
  known_with-refused proving verifying unproved unverified =
      record {
        taken = record {
          only_memory = λ witness before after e v refuses carried can.
              for_memory verifying unverified v before after e can.fits can.is_next can.short can.gives refuses;
        };
        sent = record {
          only_memory = λ given v before after e handed refuses same can.
              for_memory proving unproved v before after e can.fits can.is_next can.short can.gives refuses;
        };
      }

pub known-refused : {S Symbol F EF O A : Type 0} (condition : Type 0) (i : Step) (f : A → Option (Challenge F EF))
    (E : Effect S Symbol A) (absorbed : Absorbed F O) → TellsLimits E →
    IsRefusedForMemory (only_if condition (known i f E absorbed)) (sides_alike (known i f E absorbed))
known-refused condition i f E absorbed tells =
    known_with-refused condition i IsNothing f E absorbed tells _ _ (λ v before after e fits next refuses. refuses.0)
    (λ v before after e fits next refuses. refuses.0)

-- ---- what is sent

played : {S Symbol A : Type 0} (m : Meaning S Symbol A) (x : A) (before : Transcript S) →
    IsNext before.playing m.interaction → m.effect.fits → m.effect.gives before.challenger ≡ Some x →
    PlaysStep m before x
    (record { challenger = m.effect.after before.challenger; playing = step_on before.playing })
played m x before next fits gives =
    record { is_next = next; fits = fits; gives = gives; challenger = refl; playing = refl }

-- what is sent is next alike, is given back, meets no limit, and is refused and read only when out of memory
module _ {S Symbol F EF O A : Type 0} (i : Step) (found : Value F EF → Option A) (IsHanded IsFit : A → Type 0)
    (sent : A → Meaning S Symbol A) (absorbed : A → Absorbed F O) (proving : A → Refusing S)
    (reading : Reading S Symbol A) (interaction : (x : A) → IsFit x → i ≡ (sent x).interaction)
    (gives : (x : A) (s : S) → (sent x).effect.gives s ≡ Some x) (tells : (x : A) → TellsLimits (sent x).effect)
    (refused : (x : A) (before after : Driving S) (e : TranscriptError) → IsFit x →
    before.transcript.playing.finished ≡ false → proving x before e after → RefusesToWrite (sent x) before e after)
    (reads : (x : A) → IsFit x → OnlyMemoryRefusesToRead (sent x) reading x) where
  abbrev sides : Sides S F EF
  sides = sides_sent found proving (RefusesToRead reading)

  -- a verifier
  sends-taken : IsTakenWherePossible (sends i found IsHanded IsFit (λ x. (sent x).wire) (λ x. (sent x).effect) absorbed) sides
  sends-taken =
      record {
        only_memory = λ witness before after e v refuses carried can.
            let x = fitting IsFit (found v) can.fits in
            let next = rw (interaction x.0 x.2) at can.is_next in
            let short = rw x.1 at can.short in
            let bytes = rw x.1 at can.next in
            reads x.0 x.2 before.transcript _ can.left before after e
            (played (sent x.0) x.0 before.transcript next short (gives x.0 before.transcript.challenger))
            (λ k. record { transcript = before.transcript; bytes = bytes k }) refuses;
      }

  -- a prover, which was handed what it sends
  sends-sent : IsSentWherePossible (sends i found IsHanded IsFit (λ x. (sent x).wire) (λ x. (sent x).effect) absorbed) sides
  sends-sent =
      record {
        only_memory = λ given v before after e handed refuses same can.
            let is : v ≡ given = cc in
            let x = fitting IsFit (found v) can.fits in
            let next = rw (interaction x.0 x.2) at can.is_next in
            let short = rw x.1 at can.short in
            let here = rw (← is, x.1) at refuses in
            next-only_memory (sent x.0) (tells x.0) before.transcript after.transcript e next short
            (ap is_some (gives x.0 before.transcript.challenger))
            (refused x.0 before after e x.2 can.is_next.0 here).refuses;
      }

  pub sends-refused : IsRefusedForMemory (sends i found IsHanded IsFit (λ x. (sent x).wire) (λ x. (sent x).effect) absorbed) sides
  sends-refused = record { taken = sends-taken; sent = sends-sent }

-- ---- proof of work

module _ {S Symbol F O : Type 0} (EF : Type 0) (condition there : Type 0) (work : Work S Symbol F)
    (may_run_out : S → Type 0)
    (absorbed : F → Absorbed F O) where
  -- where a witness passes, a search finds one
  ground : IsResidues work.residues → (before after : Transcript S) (x : F) →
      IsLeast work.residues work.check before.challenger x → IsNext before.playing work.interaction →
      (e : TranscriptError) → RefusesToGrind work may_run_out before e after → e ≡ OutOfMemory
  ground laws before after x least next e refuses =
      grind (arith, next-not_refused, laws.below x, laws.of_number x, least.passes)

  -- the witness that may be played passes
  passes : (x : F) (wire : List ℕ) (before : Transcript S) → IsNext before.playing work.interaction →
      IsSome (option_map (no_challenge {F = F} {EF = EF}) (where_passed x ((work.check x).sampled before.challenger))) →
      PlaysStep (record { interaction = work.interaction; effect = checking work x; wire = wire }) before x
      (record { challenger = (work.check x).after before.challenger; playing = step_on before.playing })
  passes x wire before next gives = played _ x before next tt (grind arith)

  module _ (enc : Encoding F) (laws : IsResidues work.residues) (completes : (x : F) → CompletesWork work enc x) where
    abbrev sent_play : Play S Symbol F EF O
    sent_play = only_if condition (sends_witness work there enc absorbed)

    witness-read : (v : Value F EF) (before after : Driving S) (e : TranscriptError) →
        RefusesToReadWork work enc before e after → CanTake sent_play before v → e ≡ OutOfMemory
    witness-read (Witness x) before after e refuses can =
        (completes x).refuses before.transcript _ can.left before after e
        (passes x _ before.transcript can.is_next can.gives)
        (λ k. record { transcript = before.transcript; bytes = can.next k }) refuses
    witness-read _ before after e refuses can = absurd can.fits

    pub witness-refused : IsRefusedForMemory sent_play (sides_ground work enc may_run_out)
    witness-refused =
        record {
          taken = record { only_memory = λ w before after e v refuses same. witness-read v before after e refuses };
          sent = record {
            only_memory = λ given v before after e handed refuses same can.
                let x = fitting (IsLeast work.residues work.check before.transcript.challenger) (witness_in v)
                can.chosen in
                elim refuses [
                  | inl h ↦ ground laws before.transcript after.transcript x.0 x.2 can.is_next e h.0
                  | inr h ↦ h.memory
                ];
          };
        }

  module _ (laws : IsResidues work.residues) (completes : (x : F) → CompletesCarriedWork work x) where
    abbrev carried_play : Play S Symbol F EF O
    carried_play = only_if condition (carries_witness work there absorbed)

    carried-checked : (witness : Option F) (v : Value F EF) (before after : Driving S) (e : TranscriptError) →
        refuses_some (RefusesCarriedWork work) witness before e after → v ∷ [] ≡ one_witness witness →
        CanTake carried_play before v → e ≡ OutOfMemory
    carried-checked (Some y) (Witness x) before after e refuses same can =
        let is : y ≡ x = cc in
        (completes x).refuses before.transcript _ before.transcript after.transcript e
        (passes x [] before.transcript can.is_next can.gives) refl (rw is at refuses.0)
    carried-checked None _ before after e refuses same can = absurd refuses
    carried-checked _ _ before after e refuses same can = absurd can.fits

    pub carried-refused : IsRefusedForMemory carried_play (sides_carried work may_run_out)
    carried-refused =
        record {
          taken = record { only_memory = λ witness before after e v. carried-checked witness v before after e };
          sent = record {
            only_memory = λ given v before after e handed refuses same can.
                let x = fitting (IsLeast work.residues work.check before.transcript.challenger) (witness_in v)
                can.chosen in
                ground laws before.transcript after.transcript x.0 x.2 can.is_next e refuses.0;
          };
        }

-- ---- the shapes of what is sent

pub within_refused : {S Symbol A : Type 0} (m : Meaning S Symbol A) (len max : ℕ) (before after : Driving S)
    (e : TranscriptError) → len ≤ max → before.transcript.playing.finished ≡ false →
    RefusesToWriteWithin len max m before e after → RefusesToWrite m before e after
within_refused m len max before after e short going refuses = grind arith

pub untouched-tells : {S Symbol A : Type 0} (x : A) → TellsLimits (untouched {S = S} {Symbol = Symbol} x)
untouched-tells x = record { limit = λ s t h. absurd h; too_long = λ s t h fits. h; witness = λ s t h. h }

-- a list that both sides know, of at most so many
pub counted-refused : {S Symbol A F EF O : Type 0} (m : Meaning S Symbol A) (len max : ℕ) (absorbed : Absorbed F O) →
    TellsLimits m.effect → IsRefusedForMemory (known_within {EF = EF} m.interaction len max m.effect absorbed)
    (sides_known (RefusesWithin len max m) (RefusesCarriedWithin len max m))
counted-refused m len max absorbed tells =
    known_with-refused _ _ _ no_challenge _ _ tells _ _
    (λ v before after e is next refuses. grind arith) (λ v before after e is next refuses. grind arith)
