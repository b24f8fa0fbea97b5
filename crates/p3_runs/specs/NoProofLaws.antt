-- Bytes and carried witnesses have at most one run. Bytes that a verifier refuses, except when out of memory, have
-- none.
use Rattle.std.proofs.Common.{◌≡◌, ℕ, List, [], refl, sym, ap, ◌∙◌, subst, append-nil, length, inl, inr}
use Rattle.std.proofs.lemmas.List.{length-map}
use Rattle.p3_fs_core.specs.{StepFits.FitsLength, declared.error.TranscriptError.TranscriptError}
use Rattle.p3_fs_core.specs.declared.error.TranscriptError.TheVariants.{OutOfMemory}
use Rattle.p3_step_laws.specs.CompletenessLaws.{reading-ends}
use Rattle.p3_runs.specs.{FrontLaws.next-admitted, Fronts.{Run, pattern}, Plays.Play, RefusalLaws.start-never}
use Rattle.p3_runs.specs.{ReachLaws.{Reaches, one-front, passed-step}, Rules.Rules, Runs.AreAdmitted, Values.Value}
use Rattle.p3_runs.specs.{Sides.Sides, Stepping.{IsCanonical, IsTakenWherePossible}, Verdicts.RefusesAtEnd}
use Rattle.p3_runs.specs.Verdicts.{with_steps, driving_after, IsProof, HasNoProof, RefusesProof, RefusesAtStep}

module _ {X S Symbol I F EF O Ac : Type 0} (rules : Rules S Symbol I F EF O Ac) (play : X → Play S Symbol F EF O)
    (canonical : (x : X) → FitsLength (play x).interaction.length → IsCanonical (play x)) where
  module _ (script : Run X F EF S) (bytes : List ℕ) (carried : List F) (values : List (Value F EF))
      (proof : IsProof rules play (with_steps script script.steps values) bytes carried) where
    whole : (others : List (Value F EF)) → IsProof rules play (with_steps script script.steps others) bytes carried →
        Reaches rules play script bytes carried script.steps others [] []
    whole others p =
        record {
          finished = p.finished;
          read = rw append-nil p.wire_is;
          carries = rw append-nil p.carries;
        }

    -- a continuation of a prefix of whole steps
    pub one-run : (others : List (Value F EF)) →
        IsProof rules play (with_steps script script.steps others) bytes carried → others ≡ values
    one-run others other =
        (one-front rules play script bytes carried canonical script.steps values others [] [] [] []
        (whole values proof) (whole others other)).0

    module _ (sides : X → Sides S F EF) (taken : (x : X) → FitsLength (play x).interaction.length → (play x).admitted →
        IsTakenWherePossible (play x) (sides x)) where
      step-not_refused : (position : ℕ) (e : TranscriptError) → AreAdmitted play script.steps →
          RefusesAtStep rules play sides script bytes carried position e → e ≡ OutOfMemory
      step-not_refused position e admitted r =
          passed-step rules play script bytes carried canonical sides taken r.before r.step r.later r.values values r.left []
          r.witness r.unused [] r.after e
          (next-admitted play r.before r.step r.later (subst (AreAdmitted play) r.steps admitted)) r.brought
          (record { finished = r.finished; read = r.read; carries = r.carries })
          (subst (λ l. Reaches rules play script bytes carried l values [] []) r.steps (whole values proof)) r.refuses

    end-not_refused : (position : ℕ) (e : TranscriptError) → RefusesAtEnd rules play script bytes carried position e → ⊥
    end-not_refused position e r =
        let same = one-front rules play script bytes carried canonical script.steps r.values values r.left [] [] []
        (record { finished = r.finished; read = r.read; carries = rw append-nil r.carries }) (whole values proof) in
        let end : length script.steps ≡ length (pattern script)
        = sym (length-map script.steps (λ x. (play x).interaction)) ∙ ap length proof.whole in
        reading-ends (driving_after rules play (with_steps script script.steps r.values) r.left) e
        (record { played = record { going = refl; end = end }; whole = same.1 })
        r.refuses

  module _ (sides : X → Sides S F EF) (taken : (x : X) → FitsLength (play x).interaction.length → (play x).admitted →
      IsTakenWherePossible (play x) (sides x)) where
    pub refused-no_proof : (script : Run X F EF S) (bytes : List ℕ) (carried : List F) (position : ℕ)
        (e : TranscriptError) → AreAdmitted play script.steps →
        RefusesProof rules play sides script bytes carried position e → (e ≡ OutOfMemory → ⊥) →
        HasNoProof rules play script bytes carried
    refused-no_proof script bytes carried position e admitted refuses other values proof =
        elim refuses [
          | inl start ↦ start-never _ e start.1 other proof.finished.seed_fits
          | inr later ↦ elim later [
            | inl step ↦ other (step-not_refused script bytes carried values proof sides taken position e admitted step)
            | inr end ↦ end-not_refused script bytes carried values proof position e end
          ]
        ]

    -- a refusal, with its consequences
    pub refused-so : (script : Run X F EF S) (bytes : List ℕ) (carried : List F) (position : ℕ)
        (e : TranscriptError) → AreAdmitted play script.steps →
        RefusesProof rules play sides script bytes carried position e →
        RefusesProof rules play sides script bytes carried position e
        × ((e ≡ OutOfMemory → ⊥) → HasNoProof rules play script bytes carried)
    refused-so script bytes carried position e admitted refuses =
        (refuses, refused-no_proof script bytes carried position e admitted refuses)
