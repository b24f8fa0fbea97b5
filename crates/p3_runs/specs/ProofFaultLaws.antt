-- A verifier refuses a script for one fault.
use Rattle.std.proofs.Common.{◌≡◌, ℕ, List, [], ◌++◌, Option, Some, None, refl, sym, ap, ◌∙◌, subst, append-nil, length}
use Rattle.p3_fs_core.specs.{Errors.refusal_of, StepFits.FitsLength, declared.error.TranscriptError.TranscriptError}
use Rattle.p3_fs_core.specs.declared.error.TranscriptError.TheVariants.{OutOfMemory}
use Rattle.p3_driver_core.specs.Driving.{Driving}
use Rattle.p3_runs.specs.{ReachLaws.{Reaches, one-front, passed-step}, Faults.{TellOneFault, ProofsTellOneFault}}
use Rattle.p3_runs.specs.{Rules.Rules, FaultLaws.{Stops, GoesPast, one-step, one-fault, end-refusal}, Runs.AreAdmitted}
use Rattle.p3_runs.specs.{Plays.{Play, Place, Carried}, Values.{Value, one_witness}, Sides.Sides, Stepping.{IsCarriedTo, OrHalts}}
use Rattle.p3_runs.specs.{Stepping.{IsCanonical, IsTakenWherePossible, RefuseForOneReason}, Fronts.{Run, seed}}
use Rattle.p3_runs.specs.{Verdicts.{with_steps, driving_after, RefusesAtStep, RefusesAtEnd}, FrontLaws.next-admitted}
use Rattle.p3_runs.specs.Runs as runs

-- the witness that a caller carries to a step
one-brought : {F : Type 0} (EF : Type 0) (place : Place) (w u : Option F) (a b : List (Value F EF)) →
    IsCarriedTo place w → IsCarriedTo place u → one_witness w ++ a ≡ one_witness u ++ b → w ≡ u
one-brought EF Carried None u a b first second e = absurd (cc)
one-brought EF Carried (Some x) None a b first second e = absurd (cc)
one-brought EF Carried (Some x) (Some y) a b first second e = let same : x ≡ y = cc in ap Some same
one-brought EF _ w u a b first second e = first ∙ sym second

module _ {X S Symbol I F EF O Ac : Type 0} (rules : Rules S Symbol I F EF O Ac) (play : X → Play S Symbol F EF O)
    (sides : X → Sides S F EF) (canonical : (x : X) → FitsLength (play x).interaction.length → IsCanonical (play x))
    (taken : (x : X) → FitsLength (play x).interaction.length → (play x).admitted → IsTakenWherePossible (play x) (sides x))
    (reasons : (x : X) → (play x).admitted → RefuseForOneReason (sides x)) where
  module _ (script : Run X F EF S) (bytes : List ℕ) (carried : List F) (admitted : AreAdmitted play script.steps) where
    -- a verifier stops at this step, after this prefix
    record StopsAt (front : List X) (x : X) (e : TranscriptError) : Type 0 where
      values : List (Value F EF)
      left : List ℕ
      witness : Option F
      unused : List (Value F EF)
      allowed : (play x).admitted
      reaches : Reaches rules play script bytes carried front values left (one_witness witness ++ unused)
      brought : IsCarriedTo (play x).place witness
      after : Driving S
      refuses : OrHalts ((sides x).verifier witness)
          (driving_after rules play (with_steps script front values) left) e after

    stops-at : (position : ℕ) (e : TranscriptError) (r : RefusesAtStep rules play sides script bytes carried position e) →
        StopsAt r.before r.step e
    stops-at position e r =
        record {
          values = r.values;
          left = r.left;
          witness = r.witness;
          unused = r.unused;
          allowed = next-admitted play r.before r.step r.later (subst (AreAdmitted play) r.steps admitted);
          reaches = record { finished = r.finished; read = r.read; carries = r.carries };
          brought = r.brought;
          after = r.after;
          refuses = r.refuses;
        }

    stops : (position : ℕ) (e : TranscriptError) → RefusesAtStep rules play sides script bytes carried position e →
        Stops script.steps StopsAt position e
    stops position e r =
        record {
          before = r.before;
          step = r.step;
          later = r.later;
          steps_are = r.steps;
          place = r.place;
          stops = stops-at position e r;
        }

    -- no prefix continues past that step
    past-memory : (front : List X) (x : X) (longer : List X) (e : TranscriptError) (values : List (Value F EF))
        (left : List ℕ) (unused : List (Value F EF)) → StopsAt front x e →
        Reaches rules play script bytes carried longer values left unused → GoesPast front x longer → e ≡ OutOfMemory
    past-memory front x longer e values left unused stop long past =
        passed-step rules play script bytes carried canonical sides taken front x past.between stop.values values stop.left left
        stop.witness stop.unused unused stop.after e stop.allowed stop.brought stop.reaches
        (subst (λ l. Reaches rules play script bytes carried l values left unused) past.split long) stop.refuses

    -- at one step a verifier stops for one reason
    one_stop : (front : List X) (x : X) (e f : TranscriptError) → StopsAt front x e → StopsAt front x f →
        (e ≡ OutOfMemory → ⊥) → (f ≡ OutOfMemory → ⊥) → refusal_of e ≡ refusal_of f
    one_stop front x e f one two p q =
        let same = one-front rules play script bytes carried canonical front one.values two.values one.left two.left
        (one_witness one.witness ++ one.unused) (one_witness two.witness ++ two.unused) one.reaches two.reaches in
        let witness = one-brought EF (play x).place one.witness two.witness one.unused two.unused one.brought two.brought
        same.2 in
        let again = rw (same.0, ← same.1, ← witness) at two.refuses in
        (reasons x one.allowed).verifier one.witness
        (driving_after rules play (with_steps script front one.values) one.left)
        one.after two.after e f one.refuses again p q

    steps-one : TellOneFault (RefusesAtStep rules play sides script bytes carried)
    steps-one p q e f r t other another =
        one-step script.steps StopsAt one_stop
        (λ front longer x y a b one two past. past-memory front x longer a two.values two.left
        (one_witness two.witness ++ two.unused) one two.reaches past) p q e f (stops p e r) (stops q f t) other another

    step-no_end : (p q : ℕ) (e f : TranscriptError) → RefusesAtStep rules play sides script bytes carried p e →
        RefusesAtEnd rules play script bytes carried q f → e ≡ OutOfMemory
    step-no_end p q e f r t =
        past-memory r.before r.step script.steps e t.values t.left [] (stops-at p e r) (record {
          finished = t.finished;
          read = t.read;
          carries = t.carries ∙ sym (append-nil (runs.carried play script.steps t.values));
        }) (record { between = r.later; split = r.steps })

    ends-one : TellOneFault (RefusesAtEnd rules play script bytes carried)
    ends-one p q e f r t other another =
        let told = end-refusal (driving_after rules play (with_steps script script.steps r.values) r.left) e refl r.refuses in
        let again = end-refusal (driving_after rules play (with_steps script script.steps t.values) t.left) f refl t.refuses in
        (r.place ∙ sym t.place, told ∙ sym again)

  pub proofs-one_fault : ProofsTellOneFault rules play sides
  proofs-one_fault script bytes carried admitted =
      one-fault (rules.alphabet.is_too_long (length (seed rules play script)))
      (RefusesAtStep rules play sides script bytes carried) (RefusesAtEnd rules play script bytes carried)
      (steps-one script bytes carried admitted) (ends-one script bytes carried admitted)
      (step-no_end script bytes carried admitted) (λ p e r. r.finished.seed_fits) (λ p e r. r.finished.seed_fits)
