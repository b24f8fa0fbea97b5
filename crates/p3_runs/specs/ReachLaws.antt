-- Prefixes of one script over the same bytes and carried witnesses: each continues the shorter ones.
use Rattle.std.proofs.Common.{◌≡◌, ℕ, List, [], ◌∷◌, ◌++◌, Option, Some, None, refl, sym, ap}
use Rattle.std.proofs.Common.{append_assoc, append-nil, inl, inr}
use Rattle.p3_fs_core.specs.{StepFits.{FitsLength, AreProgramSteps}, declared.error.TranscriptError.TranscriptError}
use Rattle.p3_fs_core.specs.declared.error.TranscriptError.TheVariants.{OutOfMemory}
use Rattle.p3_driver_core.specs.{Driving.Driving, Transcripts.IsNext}
use Rattle.p3_runs.specs.{FrontLaws.{next-fits, no_values-left, front-fits, front-next}, Plays.{Play, Place, Carried}}
use Rattle.p3_runs.specs.{Fronts.{Run, IsFinished, seeded}, Rules.Rules, Runs.{if_carried, Finishes, interactions}}
use Rattle.p3_runs.specs.{RunLaws.{AreCanonical, GoesOn, front-of_run}, Sides.Sides, Values.{Value, Witness, one_witness, all_witnesses}}
use Rattle.p3_runs.specs.Stepping.{IsCarriedTo, OrHalts, IsCanonical, IsTakenWherePossible}
use Rattle.p3_runs.specs.Verdicts.{with_steps, driving_after}
use Rattle.p3_runs.specs.Runs as runs

-- the witness that a caller carries is the value of the step that it carries one for
carried-first : {F EF : Type 0} (place : Place) (w : Option F) (v : Value F EF) (a b : List (Value F EF)) →
    IsCarriedTo place w → one_witness w ++ a ≡ if_carried place v ++ b → if_carried place v ≡ one_witness w
carried-first Carried None v a b h e = absurd (cc)
carried-first Carried (Some x) v a b h e = let same : v ≡ Witness x = cc in ap (λ u. u ∷ []) same
carried-first _ w v a b h e = ap one_witness (sym h)

module _ {X S Symbol F EF O : Type 0} (play : X → Play S Symbol F EF O) where
  -- the steps of a pattern fit their types
  all-canonical : ((x : X) → FitsLength (play x).interaction.length → IsCanonical (play x)) → (front later : List X) →
      AreProgramSteps (interactions play (front ++ later)) → AreCanonical play front
  all-canonical canonical [] later fit = tt
  all-canonical canonical (x ∷ front) later fit =
      (canonical x fit.0.fits.carried, all-canonical canonical front later fit.1)

module _ {X S Symbol I F EF O Ac : Type 0} (rules : Rules S Symbol I F EF O Ac) (play : X → Play S Symbol F EF O)
    (script : Run X F EF S) (bytes : List ℕ) (carried : List F) where
  -- The bytes and the carried witnesses begin with those of a finished prefix, and these are left after it.
  pub record Reaches (front : List X) (values : List (Value F EF)) (left : List ℕ) (unused : List (Value F EF))
      : Type 0 where
    pub finished : IsFinished rules play (with_steps script front values)
    pub read : bytes ≡ runs.wires play front values ++ left
    pub carries : all_witnesses carried ≡ runs.carried play front values ++ unused

  module _ (canonical : (x : X) → FitsLength (play x).interaction.length → IsCanonical (play x)) where
    goes-on : (front later : List X) (done values : List (Value F EF)) (left after : List ℕ)
        (unused unspent : List (Value F EF)) → Reaches front done left unused →
        Reaches (front ++ later) values after unspent →
        GoesOn play front later done values (seeded rules play script) left after unused unspent
    goes-on front later done values left after unused unspent short long =
        front-of_run play front later done values (seeded rules play script) left after unused unspent
        (all-canonical play canonical front later (front-fits rules play script (front ++ later) values long.finished))
        short.finished.finishes long.finished.finishes (cc (short.read, long.read)) (cc (short.carries, long.carries))

    -- a prefix has only these values, and only this is left after it
    pub one-front : (front : List X) (values others : List (Value F EF)) (left after : List ℕ)
        (unused unspent : List (Value F EF)) → Reaches front values left unused → Reaches front others after unspent →
        (others ≡ values) × (left ≡ after) × (unused ≡ unspent)
    one-front front values others left after unused unspent first second =
        let on = goes-on front [] values others left after unused unspent first
        (rw append-nil second) in
        let none = no_values-left play on.more _ on.finishes in (
          rw (none, append-nil) at on.split,
          on.rest,
          on.carries,
        )

    module _ (sides : X → Sides S F EF) (taken : (x : X) → FitsLength (play x).interaction.length → (play x).admitted → IsTakenWherePossible (play x) (sides x))
      where
        first-taken : (x : X) (later : List X) (more : List (Value F EF)) (witness : Option F)
            (unused unspent : List (Value F EF)) (here there : Driving S) (after : List ℕ) (e : TranscriptError) →
            IsNext here.transcript.playing (play x).interaction → FitsLength (play x).interaction.length →
            (play x).admitted → IsCarriedTo (play x).place witness →
            OrHalts ((sides x).verifier witness) here e there →
            Finishes play (x ∷ later) more here.transcript.challenger →
            here.bytes ≡ runs.wires play (x ∷ later) more ++ after →
            one_witness witness ++ unused ≡ runs.carried play (x ∷ later) more ++ unspent → e ≡ OutOfMemory
        first-taken x later (v ∷ more) witness unused unspent here there after e next fits may brought refuses h left carries =
            let same = carried-first (play x).place witness v unused (runs.carried play later more ++ unspent) brought
            (rw append_assoc at carries) in
            elim refuses [
              | inl refused ↦ (taken x fits may).only_memory witness here there e v refused same (record {
                is_next = next;
                fits = h.0;
                short = h.1;
                gives = h.2;
                left = runs.wires play later more ++ after;
                next = rw append_assoc at left;
              })
              | inr halts ↦ halts.0
            ]
        first-taken x later _ witness unused unspent here there after e next fits may brought refuses h left carries =
            absurd h

        -- a step within a longer prefix is refused only when out of memory
        pub passed-step : (front : List X) (x : X) (later : List X) (done values : List (Value F EF)) (left after : List ℕ)
            (witness : Option F) (unused unspent : List (Value F EF)) (there : Driving S) (e : TranscriptError) →
            (play x).admitted → IsCarriedTo (play x).place witness →
            Reaches front done left (one_witness witness ++ unused) →
            Reaches (front ++ (x ∷ later)) values after unspent →
            OrHalts ((sides x).verifier witness) (driving_after rules play (with_steps script front done) left) e there →
            e ≡ OutOfMemory
        passed-step front x later done values left after witness unused unspent there e may brought short long refuses =
            let on = goes-on front (x ∷ later) done values left after (one_witness witness ++ unused) unspent short long in
            first-taken x later on.more witness unused unspent
            (driving_after rules play (with_steps script front done) left) there after e
            (refl, front-next rules play script front x later values long.finished)
            (next-fits play front x later
            (front-fits rules play script (front ++ (x ∷ later)) values long.finished)) may brought
            refuses on.finishes on.rest on.carries
