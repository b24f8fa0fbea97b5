-- A prover refuses a script for one fault.
use Rattle.std.proofs.Common.{◌≡◌, ℕ, List, [], ◌++◌, refl, sym, ◌∙◌, subst, append-nil, length}
use Rattle.p3_fs_core.specs.{Errors.refusal_of, StepFits.FitsLength, declared.error.TranscriptError.TranscriptError}
use Rattle.p3_fs_core.specs.declared.error.TranscriptError.TheVariants.{OutOfMemory}
use Rattle.p3_driver_core.specs.Driving.{Driving}
use Rattle.p3_runs.specs.{Provings.{RefusesToProveStep, RefusesToProveEnd}, Faults.{ProvingsTellOneFault, TellOneFault}}
use Rattle.p3_runs.specs.{Values.Value, RefusalLaws.{ReachesSent, passed-sent, sent-split, one-sent}, Runs.AreAdmitted}
use Rattle.p3_runs.specs.{Runs.if_sent, Rules.Rules, Stepping.{IsSentWherePossible, RefuseForOneReason, IsDetermined}}
use Rattle.p3_runs.specs.{Sides.Sides, Stepping.OrHalts, FaultLaws.{end-refusal, one-fault, GoesPast, one-step, end-read, Stops}}
use Rattle.p3_runs.specs.{Verdicts.{driving_after, with_steps}, Plays.Play, FrontLaws.next-admitted, Fronts.{seed, Run}}
use Rattle.p3_runs.specs.Runs as runs

module _ {X S Symbol I F EF O Ac : Type 0} (rules : Rules S Symbol I F EF O Ac) (play : X → Play S Symbol F EF O)
    (sides : X → Sides S F EF) (told : (x : X) → IsDetermined (play x))
    (possible : (x : X) → FitsLength (play x).interaction.length → (play x).admitted → IsSentWherePossible (play x) (sides x))
    (reasons : (x : X) → (play x).admitted → RefuseForOneReason (sides x)) where
  module _ (script : Run X F EF S) (sent : List (Value F EF)) (admitted : AreAdmitted play script.steps) where
    -- the state of a prover after a prefix
    abbrev stands : List X → List (Value F EF) → Driving S
    stands front values = driving_after rules play (with_steps script front values) (runs.wires play front values)

    -- a prover stops at this step, after this prefix
    record StopsAt (front : List X) (x : X) (e : TranscriptError) : Type 0 where
      values : List (Value F EF)
      given : Value F EF
      unused : List (Value F EF)
      allowed : (play x).admitted
      is_handed : (play x).IsHanded given
      reaches : ReachesSent rules play script sent front values (if_sent (play x).place given ++ unused)
      after : Driving S
      refuses : OrHalts ((sides x).prover given) (stands front values) e after

    stops-at : (position : ℕ) (e : TranscriptError) (r : RefusesToProveStep rules play sides script sent position e) →
        StopsAt r.before r.step e
    stops-at position e r =
        record {
          values = r.values;
          given = r.given;
          unused = r.unused;
          allowed = next-admitted play r.before r.step r.later (subst (AreAdmitted play) r.steps admitted);
          is_handed = r.is_handed;
          reaches = record { finished = r.finished; least = r.least; handed = r.handed };
          after = r.after;
          refuses = r.refuses;
        }

    stops : (position : ℕ) (e : TranscriptError) → RefusesToProveStep rules play sides script sent position e →
        Stops script.steps StopsAt position e
    stops position e r =
        record {
          before = r.before;
          step = r.step;
          later = r.later;
          steps_are = r.steps;
          place = r.place;
          stops = stops-at position e r;
        }

    -- no prefix continues past that step
    past-memory : (front : List X) (x : X) (longer : List X) (e : TranscriptError) (values unused : List (Value F EF)) →
        StopsAt front x e → ReachesSent rules play script sent longer values unused → GoesPast front x longer →
        e ≡ OutOfMemory
    past-memory front x longer e values unused stop long past =
        passed-sent rules play sides script sent front x past.between stop.values values stop.unused unused stop.given stop.after
        e told possible stop.allowed stop.is_handed stop.reaches
        (subst (λ l. ReachesSent rules play script sent l values unused) past.split long) stop.refuses

    -- at one step a prover stops for one reason
    one_stop : (front : List X) (x : X) (e f : TranscriptError) → StopsAt front x e → StopsAt front x f →
        (e ≡ OutOfMemory → ⊥) → (f ≡ OutOfMemory → ⊥) → refusal_of e ≡ refusal_of f
    one_stop front x e f one two p q =
        let same = one-sent rules play script sent front one.values two.values
        (if_sent (play x).place one.given ++ one.unused) (if_sent (play x).place two.given ++ two.unused) told
        one.reaches two.reaches in
        let alike = sent-split (play x).place one.given two.given one.unused two.unused same.1 in
        let given = (told x).one_handed one.given two.given one.is_handed two.is_handed alike.0 in
        let again = rw (same.0, ← given) at two.refuses in
        (reasons x one.allowed).prover one.given (stands front one.values) one.after two.after e f one.refuses again p q

    steps-one : TellOneFault (RefusesToProveStep rules play sides script sent)
    steps-one p q e f r t other another =
        one-step script.steps StopsAt one_stop
        (λ front longer x y a b one two past. past-memory front x longer a two.values
        (if_sent (play y).place two.given ++ two.unused) one two.reaches past) p q e f (stops p e r) (stops q f t) other
        another

    whole : (q : ℕ) (f : TranscriptError) (t : RefusesToProveEnd rules play script sent q f) →
        ReachesSent rules play script sent script.steps t.values []
    whole q f t =
        record {
          finished = t.finished;
          least = t.least;
          handed = t.handed ∙ sym (append-nil (runs.handed play script.steps t.values));
        }

    step-no_end : (p q : ℕ) (e f : TranscriptError) → RefusesToProveStep rules play sides script sent p e →
        RefusesToProveEnd rules play script sent q f → e ≡ OutOfMemory
    step-no_end p q e f r t =
        past-memory r.before r.step script.steps e t.values [] (stops-at p e r) (whole q f t)
        (record { between = r.later; split = r.steps })

    ends-one : TellOneFault (RefusesToProveEnd rules play script sent)
    ends-one p q e f r t other another =
        let here = stands script.steps r.values in
        let there = stands script.steps t.values in
        (r.place ∙ sym t.place, end-refusal here e refl (end-read here e r.refuses) ∙ sym (end-refusal there f refl (end-read there f t.refuses)))

  pub provings-one_fault : ProvingsTellOneFault rules play sides
  provings-one_fault script sent admitted =
      one-fault (rules.alphabet.is_too_long (length (seed rules play script)))
      (RefusesToProveStep rules play sides script sent) (RefusesToProveEnd rules play script sent)
      (steps-one script sent admitted) (ends-one script sent admitted) (step-no_end script sent admitted)
      (λ p e r. r.finished.seed_fits) (λ p e r. r.finished.seed_fits)
