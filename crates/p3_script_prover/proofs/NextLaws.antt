-- A prover that plays a script step by step.
use Rattle.std.proofs.Common.{◌≡◌, ◌<◌, ◌≤◌, ◌+◌, ℕ, suc, zero, List, [], ◌∷◌, refl, subst, drop, length, get_or}
use Rattle.std.proofs.Common.{add-one, drop-cons, inl, inr}
use Rattle.p3_fs_core.specs.{Errors.pattern_error_of, declared.error.TranscriptError.TranscriptError}
use Rattle.p3_fs_core.specs.declared.error.TranscriptError.TheVariants.{OutOfMemory}
use Rattle.p3_patterns.specs.Playing.{FaultOfPlayEnd, IsPatternError}
use Rattle.p3_driver_core.specs.Driving.{Driving}
use Rattle.p3_runs.specs.{Fronts.Run, Plays.Play, Provings.{IsProverRun, RefusesToProve}, Rules.Rules, Runs.AreAdmitted}
use Rattle.p3_runs.specs.{ProvingLaws.{Proves, proves-on, proves-refused, proves-not_ended}, Values.{Value, Challenge}}
use Rattle.p3_runs.specs.RefusalLaws.{AreDetermined, AreRefusedForMemory, refused-never}
use Rattle.p3_runs.specs.{Sides.Sides, Verdicts.with_steps}
use Rattle.p3_script_prover.specs.Nexts.{PlaysNext, RefusesNext}

-- the part from i on begins with the element there
pub part-on : {X : Type 0} (xs : List X) (i : ℕ) (x : X) → i < length xs → x ≡ get_or xs i x →
    drop i xs ≡ x ∷ drop (i + 1) xs
part-on xs i x h e = rw (drop-cons xs i x, add-one, ← e) refl

-- each step of a list that may be played may be
pub admitted-at : {X S Symbol F EF O : Type 0} (play : X → Play S Symbol F EF O) (steps rest : List X) (i : ℕ) (x : X) →
    AreAdmitted play steps → drop i steps ≡ x ∷ rest → (play x).admitted
admitted-at play [] rest zero x h at = absurd (cc)
admitted-at play [] rest (suc i) x h at = absurd (cc)
admitted-at play (y ∷ steps) rest zero x h at =
    let same : y ≡ x = cc in
    subst (λ z. (play z).admitted) same h.0
admitted-at play (y ∷ steps) rest (suc i) x h at = admitted-at play steps rest i x h.1 at

module _ {X S Symbol I F EF O Ac : Type 0} (rules : Rules S Symbol I F EF O Ac) (play : X → Play S Symbol F EF O) where
  -- a step more is played
  pub next-on : (script : Run X F EF S) (sent : List (Value F EF)) (i j k : ℕ) (here there : Driving S)
      (witnesses0 witnesses1 carried0 carried1 : List F) (drawn0 drawn1 : List (Challenge F EF)) (x : X) →
      drop i script.steps ≡ x ∷ drop (i + 1) script.steps →
      Proves rules play script sent i j here witnesses0 carried0 drawn0 →
      PlaysNext (play x) sent j k here there witnesses0 witnesses1 carried0 carried1 drawn0 drawn1 →
      Proves rules play script sent (i + 1) k there witnesses1 carried1 drawn1
  next-on script sent i j k here there witnesses0 witnesses1 carried0 carried1 drawn0 drawn1 x at f n =
      let more = proves-on rules play script sent i j k here there witnesses0 carried0 drawn0 x n.given n.witness n.drawn
      at n.used f n.sends in
      rw (n.witnesses_is, n.carried_is, n.drawn_is) more

  -- it is refused
  pub next-refused : (sides : X → Sides S F EF) (script : Run X F EF S) (sent : List (Value F EF)) (i j : ℕ)
      (here there : Driving S) (witnesses carried : List F) (drawn : List (Challenge F EF)) (x : X) (e : TranscriptError) →
      drop i script.steps ≡ x ∷ drop (i + 1) script.steps →
      Proves rules play script sent i j here witnesses carried drawn → RefusesNext (play x) (sides x) sent j here e there →
      RefusesToProve rules play sides script sent i e
  next-refused sides script sent i j here there witnesses carried drawn x e at f n =
      inr (inl (proves-refused rules play sides script sent i j here there witnesses carried drawn x n.given n.unused e at
      n.used n.handed f n.refuses))

  -- the next step may be played
  pub next-admitted : (script : Run X F EF S) (sent : List (Value F EF)) (i j : ℕ) (now : Driving S)
      (witnesses carried : List F) (drawn : List (Challenge F EF)) (x : X) →
      Proves rules play script sent i j now witnesses carried drawn →
      drop i script.steps ≡ x ∷ drop (i + 1) script.steps → AreAdmitted play script.steps → (play x).admitted
  next-admitted script sent i j now witnesses carried drawn x f at admitted =
      admitted-at play script.steps (drop (i + 1) script.steps) i x admitted at

  module _ (sides : X → Sides S F EF) (script : Run X F EF S) (sent : List (Value F EF)) (i j : ℕ) (now : Driving S)
      (witnesses carried : List F) (drawn : List (Challenge F EF)) where
    -- where the next step is refused for another reason than being out of memory, no values are the script's
    pub next-never : (there : Driving S) (x : X) (e : TranscriptError) →
        Proves rules play script sent i j now witnesses carried drawn → AreDetermined play script.steps →
        drop i script.steps ≡ x ∷ drop (i + 1) script.steps → RefusesNext (play x) (sides x) sent j now e there →
        AreRefusedForMemory play sides script.steps → AreAdmitted play script.steps → (e ≡ OutOfMemory → ⊥) →
        (values : List (Value F EF)) → IsProverRun rules play (with_steps script script.steps values) sent → ⊥
    next-never there x e f told at n sendable may other values run =
        refused-never rules play sides script sent i e told sendable may
        (next-refused sides script sent i j now there witnesses carried drawn x e at f n) other values run

    -- where the end is, neither
    pub end-never : (e : TranscriptError) → Proves rules play script sent i j now witnesses carried drawn →
        AreDetermined play script.steps → length script.steps ≤ i →
        IsPatternError (λ m. FaultOfPlayEnd now.transcript.playing (pattern_error_of m)) e →
        AreRefusedForMemory play sides script.steps → AreAdmitted play script.steps → (e ≡ OutOfMemory → ⊥) →
        (values : List (Value F EF)) → IsProverRun rules play (with_steps script script.steps values) sent → ⊥
    end-never e f told past refuses sendable may other values run =
        refused-never rules play sides script sent (length script.steps) e told sendable may
        (inr (inr (proves-not_ended rules play script sent i j now witnesses carried drawn past f e refuses))) other values
        run
