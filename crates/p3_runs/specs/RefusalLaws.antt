-- Where a prover refuses a script, except when out of memory, the script has no run.
use Rattle.std.proofs.Common.{◌≡◌, ℕ, List, [], ◌∷◌, ◌++◌, inl, inr, refl, sym, ap, ◌∙◌, subst, append_assoc}
use Rattle.std.proofs.{Common.{append-nil, length, true, false}, lemmas.List.length-map}
use Rattle.p3_challenger_core.specs.declared.error.ChallengerError.TheVariants.{TooLong}
use Rattle.p3_fs_core.specs.{Errors.pattern_error_of, declared.error.PatternError.TheVariants.{Finished, Unplayed}}
use Rattle.p3_fs_core.specs.declared.error.TranscriptError.{TranscriptError, TheVariants.{Pattern, Challenger}}
use Rattle.p3_fs_core.specs.{declared.error.TranscriptError.TheVariants.OutOfMemory, StepFits.FitsLength}
use Rattle.p3_patterns.specs.Playing.{Playing, FaultOfPlayEnd, IsPatternError}
use Rattle.p3_driver_core.specs.{Driving.{Driving, RefusesStart}, Transcripts.IsNext}
use Rattle.p3_runs.specs.FrontLaws.{no_values-left, next-admitted, front-fits, front-next, next-fits, get-past}
use Rattle.p3_runs.specs.{Provings.{RefusesToProveStep, RefusesToProve, IsProverRun}, Values.Value}
use Rattle.p3_runs.specs.{Sides.Sides, Stepping.{IsSentWherePossible, IsDetermined, OrHalts}, Rules.Rules, Plays.{Place, Play, Sent}}
use Rattle.p3_runs.specs.{Runs.{AreChosen, Finishes, if_sent}, Fronts.{IsFinished, AreLeast, seeded, Run}}
use Rattle.p3_runs.specs.Verdicts.{driving_after, playing_after, with_steps}
use Rattle.p3_runs.specs.Runs as runs

-- ---- the seed and the end

pub start-never : (IsTooLong : Type 0) (e : TranscriptError) → RefusesStart IsTooLong e → (e ≡ OutOfMemory → ⊥) →
    (IsTooLong → ⊥) → ⊥
start-never L (Challenger TooLong) h other short = short h
start-never L OutOfMemory h other short = other refl
start-never L _ h other short = h

end-never : (p : Playing) (e : TranscriptError) → p.finished ≡ false → p.position ≡ length p.pattern.steps →
    IsPatternError (λ m. FaultOfPlayEnd p (pattern_error_of m)) e → ⊥
end-never p (Pattern Finished) going end h = let both : false ≡ true = sym going ∙ h in absurd (cc)
end-never p (Pattern (Unplayed expected)) going end h =
    let both = rw (end, get-past) at h.1 in absurd (cc)
end-never p _ going end h = h

-- ---- a step

pub sent-split : {V : Type 0} (place : Place) (v w : V) (a b : List V) → if_sent place v ++ a ≡ if_sent place w ++ b →
    (if_sent place v ≡ if_sent place w) × (a ≡ b)
sent-split Sent v w a b h =
    let same : v ≡ w = cc in
    let rest : a ≡ b = cc in
    (ap (λ u. u ∷ []) same, rest)
sent-split _ v w a b h = (refl, h)

module _ {X S Symbol F EF O : Type 0} (play : X → Play S Symbol F EF O) where
  -- what is sent determines the values of each step; of the list of steps only the type is read
  abbrev pub AreDetermined : List X → Type 0
  AreDetermined steps = (x : X) → IsDetermined (play x)

  -- An admitted step that may be played, and whose length a pattern can have, is refused only when out of memory. Of
  -- the list of steps only the type is read.
  abbrev pub AreRefusedForMemory : (X → Sides S F EF) → List X → Type 0
  AreRefusedForMemory sides steps =
      (x : X) → FitsLength (play x).interaction.length → (play x).admitted → IsSentWherePossible (play x) (sides x)

  -- A prover's run continues a prefix that was handed all values except these, of which those are left after it.
  pub record GoesOnSent (front later : List X) (done values : List (Value F EF)) (s : S)
      (unused unspent : List (Value F EF)) : Type 0 where
    pub more : List (Value F EF)
    pub split : values ≡ done ++ more
    pub finishes : Finishes play later more (runs.after play front done s)
    pub chosen : AreChosen play later more (runs.after play front done s)
    pub rest : unused ≡ runs.handed play later more ++ unspent

  -- The first values of a prover's run are those of a finished prefix that was handed the same.
  pub front-of_sent : (front later : List X) (done values : List (Value F EF)) (s : S)
      (unused unspent : List (Value F EF)) →
      AreDetermined front → Finishes play front done s → AreChosen play front done s →
      Finishes play (front ++ later) values s → AreChosen play (front ++ later) values s →
      runs.handed play front done ++ unused ≡ runs.handed play (front ++ later) values ++ unspent →
      GoesOnSent front later done values s unused unspent
  front-of_sent [] later [] values s unused unspent told h c run chosen hands =
      record { more = values; split = refl; finishes = run; chosen = chosen; rest = hands }
  front-of_sent (x ∷ front) later (w ∷ done) [] s unused unspent told h c run chosen hands = absurd run
  front-of_sent (x ∷ front) later (w ∷ done) (v ∷ values) s unused unspent told h c run chosen hands =
      let both = sent-split (play x).place w v (runs.handed play front done ++ unused)
      (runs.handed play (front ++ later) values ++ unspent) (simp append_assoc at hands) in
      let same = (told x).one_way w v s h.0 run.0 both.0 c.0 chosen.0 in
      let rest = front-of_sent front later done values _ unused unspent told h.3 c.1
      (rw (← same) at run.3) (rw (← same) at chosen.1) both.1 in
      record {
        more = rest.more;
        split = cc (rest.split, same);
        finishes = rest.finishes;
        chosen = rest.chosen;
        rest = rest.rest;
      }
  front-of_sent _ later _ values s unused unspent told h c run chosen hands = absurd h

  -- a step that a run continues with is refused only when out of memory
  step-memory : (sides : X → Sides S F EF) (x : X) (later : List X) (more : List (Value F EF)) (here there : Driving S) (given : Value F EF)
      (unused unspent : List (Value F EF)) (e : TranscriptError) → IsSentWherePossible (play x) (sides x) →
      (play x).IsHanded given → OrHalts ((sides x).prover given) here e there →
      IsNext here.transcript.playing (play x).interaction →
      Finishes play (x ∷ later) more here.transcript.challenger →
      AreChosen play (x ∷ later) more here.transcript.challenger →
      if_sent (play x).place given ++ unused ≡ runs.handed play (x ∷ later) more ++ unspent → e ≡ OutOfMemory
  step-memory sides x later [] here there given unused unspent e law handed refuses next run chosen hands = absurd run
  step-memory sides x later (v ∷ more) here there given unused unspent e law handed (inl refuses) next run chosen hands =
      let both = sent-split (play x).place given v unused (runs.handed play later more ++ unspent)
      (rw append_assoc at hands) in
      law.only_memory given v here there e handed refuses (sym both.0)
      (record { is_next = next; fits = run.0; short = run.1; gives = run.2; chosen = chosen.0 })
  step-memory sides x later (v ∷ more) here there given unused unspent e law handed (inr halts) next run chosen hands = halts.0

module _ {X S Symbol I F EF O Ac : Type 0} (rules : Rules S Symbol I F EF O Ac) (play : X → Play S Symbol F EF O) where
  -- The values that a prover is handed begin with those of a finished prefix, and these are left after it.
  pub record ReachesSent (script : Run X F EF S) (sent : List (Value F EF)) (front : List X)
      (values unused : List (Value F EF)) : Type 0 where
    pub finished : IsFinished rules play (with_steps script front values)
    pub least : AreLeast rules play (with_steps script front values)
    pub handed : sent ≡ runs.handed play front values ++ unused

  goes-on_sent : (script : Run X F EF S) (sent : List (Value F EF)) (front later : List X)
      (done values unused unspent : List (Value F EF)) → AreDetermined play front →
      ReachesSent script sent front done unused → ReachesSent script sent (front ++ later) values unspent →
      GoesOnSent play front later done values (seeded rules play script) unused unspent
  goes-on_sent script sent front later done values unused unspent told short long =
      front-of_sent play front later done values (seeded rules play script) unused unspent told short.finished.finishes
      short.least long.finished.finishes long.least (cc (short.handed, long.handed))

  -- a prefix has only these values, and only these are left after it
  pub one-sent : (script : Run X F EF S) (sent : List (Value F EF)) (front : List X)
      (values others unused unspent : List (Value F EF)) → AreDetermined play front →
      ReachesSent script sent front values unused → ReachesSent script sent front others unspent →
      (others ≡ values) × (unused ≡ unspent)
  one-sent script sent front values others unused unspent told first second =
      let on = goes-on_sent script sent front [] values others unused unspent told first
      (rw append-nil second) in
      let none = no_values-left play on.more _ on.finishes in (rw (none, append-nil) at on.split, on.rest)

  -- a step within a longer prefix is refused only when out of memory
  pub passed-sent : (sides : X → Sides S F EF) (script : Run X F EF S) (sent : List (Value F EF)) (front : List X) (x : X) (later : List X)
      (done values unused unspent : List (Value F EF)) (given : Value F EF) (there : Driving S) (e : TranscriptError) →
      AreDetermined play front → AreRefusedForMemory play sides front → (play x).admitted → (play x).IsHanded given →
      ReachesSent script sent front done (if_sent (play x).place given ++ unused) →
      ReachesSent script sent (front ++ (x ∷ later)) values unspent →
      OrHalts ((sides x).prover given)
      (driving_after rules play (with_steps script front done) (runs.wires play front done)) e there → e ≡ OutOfMemory
  passed-sent sides script sent front x later done values unused unspent given there e told law may handed short long refuses =
      let on = goes-on_sent script sent front (x ∷ later) done values (if_sent (play x).place given ++ unused) unspent told
      short long in
      step-memory play sides x later on.more
      (driving_after rules play (with_steps script front done) (runs.wires play front done)) there given unused unspent e
      (law x (next-fits play front x later (front-fits rules play script (front ++ (x ∷ later)) values long.finished)) may)
      handed refuses (refl, front-next rules play script front x later values long.finished) on.finishes on.chosen
      on.rest

  step-never : (sides : X → Sides S F EF) (script : Run X F EF S) (sent : List (Value F EF)) (position : ℕ) (e : TranscriptError) →
      AreDetermined play script.steps → AreRefusedForMemory play sides script.steps → runs.AreAdmitted play script.steps →
      RefusesToProveStep rules play sides script sent position e → (values : List (Value F EF)) →
      IsProverRun rules play (with_steps script script.steps values) sent → e ≡ OutOfMemory
  step-never sides script sent position e told law may r values run =
      let whole : ReachesSent script sent script.steps values [] = record {
        finished = run.finished;
        least = run.least;
        handed = run.handed ∙ sym (append-nil (runs.handed play script.steps values));
      } in
      passed-sent sides script sent r.before r.step r.later r.values values r.unused [] r.given r.after e
      told law (next-admitted play r.before r.step r.later (subst (runs.AreAdmitted play) r.steps may)) r.is_handed
      (record { finished = r.finished; least = r.least; handed = r.handed })
      (subst (λ l. ReachesSent script sent l values []) r.steps whole) r.refuses

  -- Where a prover refuses, except when out of memory, no values are the script's.
  pub refused-never : (sides : X → Sides S F EF) (script : Run X F EF S) (sent : List (Value F EF)) (position : ℕ) (e : TranscriptError) →
      AreDetermined play script.steps → AreRefusedForMemory play sides script.steps → runs.AreAdmitted play script.steps →
      RefusesToProve rules play sides script sent position e →
      (e ≡ OutOfMemory → ⊥) → (values : List (Value F EF)) →
      IsProverRun rules play (with_steps script script.steps values) sent → ⊥
  refused-never sides script sent position e told law may (inl start) other values run =
      start-never _ e start.1 other run.finished.seed_fits
  refused-never sides script sent position e told law may (inr (inl r)) other values run =
      other (step-never sides script sent position e told law may r values run)
  refused-never sides script sent position e told law may (inr (inr r)) other values run =
      let long = sym (length-map script.steps (λ y. (play y).interaction)) ∙ ap length run.whole in
      end-never (playing_after script) e refl long r.refuses
