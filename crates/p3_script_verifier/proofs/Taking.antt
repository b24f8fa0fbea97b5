-- What a verifier's step comes to, by the shape of the step.
use Rattle.std.proofs.Common.{◌≡◌, ◌⊎◌, [], ◌∷◌, ◌++◌, Option, Some, None, Err, refl, sym, ap, ◌∙◌, subst, inl, inr}
use Rattle.std.specs.Option.{option_map}
use Rattle.p3_challenger_core.specs.Reading.{AreBytes}
use Rattle.p3_fs_core.specs.{Steps.Step, declared.error.TranscriptError.{TranscriptError, TheVariants.OutOfMemory}}
use Rattle.p3_driver_core.specs.{Driving.Driving, Effects.Effect, Reads.Reading, Transcripts.{Meaning, halted}}
use Rattle.p3_driver_core.specs.Verifying.{Receives}
use Rattle.p3_script_verifier.specs.VerifierAnswers.{IsRefused}
use Rattle.p3_step_laws.specs.ReadBack.{OnlyReads}
use Rattle.p3_runs.specs.{Absorbed.Absorbed, Plays.{Play, sends}, Runs.{if_carried, if_in_proof}, Sides.Sides}
use Rattle.p3_runs.specs.{Stepping.{Halts, TakesStep}, Values.{Challenge, Nothing, Value}}
use Rattle.p3_script.specs.Alike.{PlaysOrRefusesAlike, PlaysWithoutValue}

-- a value that the step sends is received
pub sent-taken : {S Symbol F EF O A : Type 0} (i : Step) (found : Value F EF → Option A) (IsHanded IsFit : A → Type 0)
    (sent : A → Meaning S Symbol A) (absorbed : A → Absorbed F O) (r : Reading S Symbol A)
    (before after : Driving S) (v : Value F EF) (x : A) → r.interaction ≡ i → r.effect x ≡ (sent x).effect →
    OnlyReads r IsFit sent → AreBytes before.bytes → found v ≡ Some x → Receives r before x after →
    TakesStep (sends i found IsHanded IsFit (λ x. (sent x).wire) (λ x. (sent x).effect) absorbed) None before (v ∷ []) None after
sent-taken {S} {Symbol} {F} {EF} {O} {A} i found IsHanded IsFit sent absorbed r before after v x named same only bytes is p =
    record {
      value = v;
      fits = rw is (only.fits before.bytes x after.bytes bytes p.read);
      carried = refl;
      shown = refl;
      plays = record {
        is_next = rw (sym named) p.is_next;
        fits = rw is (subst (λ (e : Effect S Symbol A). e.fits) same p.fits);
        gives = rw is (ap (option_map (λ _. None))
            (ap (λ (e : Effect S Symbol A). e.gives before.transcript.challenger) (sym same) ∙ p.gives));
        challenger = rw is (p.challenger
            ∙ ap (λ (e : Effect S Symbol A). e.after before.transcript.challenger) same);
        playing = p.playing;
      };
      read = rw is (only.encoded before.bytes x after.bytes bytes p.read);
    }

-- the same where the driver was as it is then for a while
pub sent-taken_then : {S Symbol F EF O A : Type 0} (i : Step) (found : Value F EF → Option A)
    (IsHanded IsFit : A → Type 0) (sent : A → Meaning S Symbol A) (absorbed : A → Absorbed F O)
    (r : Reading S Symbol A) (before after there : Driving S) (v : Value F EF) (x : A) →
    r.interaction ≡ i → r.effect x ≡ (sent x).effect → OnlyReads r IsFit sent → AreBytes before.bytes →
    found v ≡ Some x → Receives r before x after → there ≡ after →
    TakesStep (sends i found IsHanded IsFit (λ x. (sent x).wire) (λ x. (sent x).effect) absorbed) None before (v ∷ []) None there
sent-taken_then i found IsHanded IsFit sent absorbed r before after there v x named same only bytes is p stays =
    subst (λ d. TakesStep (sends i found IsHanded IsFit (λ x. (sent x).wire) (λ x. (sent x).effect) absorbed) None before (v ∷ []) None d) (sym stays)
    (sent-taken i found IsHanded IsFit sent absorbed r before after v x named same only bytes is p)

-- a step that both sides play alike is taken
pub alike-taken : {S Symbol F EF O : Type 0} (play : Play S Symbol F EF O) (before after : Driving S)
    (drawn : Option (Challenge F EF)) → PlaysWithoutValue play before drawn after →
    TakesStep play None before [] drawn after
alike-taken play before after drawn p =
    record {
      value = Nothing;
      fits = p.fits;
      carried = ap (λ q. if_carried q Nothing) p.nowhere;
      shown = ap (λ q. if_in_proof q Nothing) p.nowhere;
      plays = p.plays;
      read = sym (ap (λ l. l ++ after.bytes) p.wire ∙ p.bytes);
    }

-- or it is refused
pub alike-refused : {S Symbol F EF O R : Type 0} (play : Play S Symbol F EF O) (sides : Sides S F EF)
    (before after : Driving S) (drawn : R → Option (Challenge F EF)) (e : TranscriptError) (witness : Option F) →
    PlaysOrRefusesAlike play sides before drawn (Err e) after →
    sides.verifier witness before e after ⊎ Halts before e after
alike-refused play sides before after drawn e witness p =
    elim p.comes [ inl each ↦ inl (each.1 witness) | inr halts ↦ inr halts ]

-- memory was refused
pub memory-refused : {S F EF : Type 0} (sides : Sides S F EF) (witness : Option F) (before : Driving S)
    (e : TranscriptError) → e ≡ OutOfMemory → IsRefused sides witness before e
memory-refused sides witness before e is =
    record {
      after = record { transcript = halted before.transcript; bytes = before.bytes };
      refuses = inr (is, refl);
    }
