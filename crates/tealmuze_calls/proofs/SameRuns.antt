-- Steps with equal plays and refusals, under separators with equal seeds and patterns, have the same runs and verdicts.
use Rattle.std.proofs.Common.{◌≡◌, inl, inr, ℕ, suc, List, [], ◌∷◌, ◌++◌, length, take, IsSome, false, refl, sym, ap, ◌∙◌, subst}
use Rattle.p3_challenger.specs.{SeparatorSeed.seed_of, Separators.HeldSeparator}
use Rattle.p3_challenger.specs.{Driving.{Driving, RefusesStart}, Errors.pattern_error_of, Observation.observed_all}
use Rattle.p3_challenger.specs.{Fronts.{IsFinished, IsWhole, AreLeast}, PatternSteps.PatternSteps, Plays.{Play, Place}}
use Rattle.p3_challenger.specs.{Playing.{FaultOfPlayEnd, IsPatternError}, Rules.Rules, Sides.Sides, Stepping.{IsCarriedTo, OrHalts}}
use Rattle.p3_challenger.specs.{TranscriptError.TranscriptError, Values.{Value, Challenge, one_witness}, Verifying.RefusesEnd}
use Rattle.p3_challenger.specs.Provings.{IsProved, IsProverRun, RefusesToProve, RefusesToProveStep, RefusesToProveEnd}
use Rattle.p3_challenger.specs.Runs.{interactions, wires, picked, after, challenges, Finishes, AreChosen, if_drawn}
use Rattle.p3_challenger.specs.Runs.{if_carried, if_in_proof, if_sent, if_witness}
use Rattle.p3_challenger.specs.Verdicts.{Accepts, HasNoProof, IsProof, IsOutcome, RefusesProof, RefusesAtStep, RefusesAtEnd}
use Rattle.p3_challenger.specs.Verdicts.{driving_after, playing_after, script_under, with_steps}
use Rattle.p3_challenger.specs.Fronts as front

-- ---- steps

-- as many steps, with equal plays and equal refusals
pub data AreSame {X S Symbol F EF O : Type 0} (play : X → Play S Symbol F EF O) (sides : X → Sides S F EF) :
    List X → List X → Type 1 where
  none : AreSame play sides [] []
  more : {x y : X} {xs ys : List X} → play x ≡ play y → sides x ≡ sides y → AreSame play sides xs ys →
      AreSame play sides (x ∷ xs) (y ∷ ys)

module _ {X S Symbol F EF O : Type 0} (play : X → Play S Symbol F EF O) (sides : X → Sides S F EF) where
  pub turned : {xs ys : List X} → AreSame play sides xs ys → AreSame play sides ys xs
  turned none = none
  turned (more e f rest) = more (sym e) (sym f) (turned rest)

  -- where a step follows some, one with the same play and refusals follows the others
  record Splits (before : List X) (step : X) (ys : List X) : Type 1 where
    front : List X
    next : X
    later : List X
    steps : ys ≡ front ++ (next ∷ later)
    same : AreSame play sides before front
    plays : play step ≡ play next
    refuses : sides step ≡ sides next

  splits : (before : List X) (step : X) (later : List X) {ys : List X} → AreSame play sides (before ++ (step ∷ later)) ys →
      Splits before step ys
  splits [] step later (more {y} {ys} e f rest) =
      record { front = []; next = y; later = ys; steps = refl; same = none; plays = e; refuses = f }
  splits (b ∷ before) step later (more {y} e f rest) =
      let others = splits before step later rest in
      record {
        front = y ∷ others.front;
        next = others.next;
        later = others.later;
        steps = ap (λ l. y ∷ l) others.steps;
        same = more e f others.same;
        plays = others.plays;
        refuses = others.refuses;
      }

  pub interactions-same : {xs ys : List X} → AreSame play sides xs ys → interactions play xs ≡ interactions play ys
  interactions-same none = refl
  interactions-same (more {y} {xs} e f rest) =
      ap (λ p. p.interaction ∷ interactions play xs) e ∙ ap (λ is. (play y).interaction ∷ is) (interactions-same rest)

  lengths-same : {xs ys : List X} → AreSame play sides xs ys → length xs ≡ length ys
  lengths-same none = refl
  lengths-same (more e f rest) = ap (λ n. suc n) (lengths-same rest)

  wires-same : {xs ys : List X} → AreSame play sides xs ys → (vs : List (Value F EF)) → wires play xs vs ≡ wires play ys vs
  wires-same none vs = refl
  wires-same (more e f rest) [] = refl
  wires-same (more {y} {xs} e f rest) (v ∷ vs) =
      ap (λ p. p.wire v ++ wires play xs vs) e ∙ ap (λ bytes. (play y).wire v ++ bytes) (wires-same rest vs)

  picked-same : (pick : Place → Value F EF → List (Value F EF)) {xs ys : List X} → AreSame play sides xs ys →
      (vs : List (Value F EF)) → picked play pick xs vs ≡ picked play pick ys vs
  picked-same pick none vs = refl
  picked-same pick (more e f rest) [] = refl
  picked-same pick (more {y} {xs} e f rest) (v ∷ vs) =
      ap (λ p. pick p.place v ++ picked play pick xs vs) e
      ∙ ap (λ us. pick (play y).place v ++ us) (picked-same pick rest vs)

  after-same : {xs ys : List X} → AreSame play sides xs ys → (vs : List (Value F EF)) (s : S) →
      after play xs vs s ≡ after play ys vs s
  after-same none vs s = refl
  after-same (more e f rest) [] s = refl
  after-same (more {y} {xs} e f rest) (v ∷ vs) s =
      ap (λ p. after play xs vs ((p.effect v).after s)) e ∙ after-same rest vs (((play y).effect v).after s)

  challenges-same : {xs ys : List X} → AreSame play sides xs ys → (vs : List (Value F EF)) (s : S) →
      challenges play xs vs s ≡ challenges play ys vs s
  challenges-same none vs s = refl
  challenges-same (more e f rest) [] s = refl
  challenges-same (more {y} {xs} e f rest) (v ∷ vs) s =
      ap (λ p. if_drawn ((p.effect v).gives s) ++ challenges play xs vs ((p.effect v).after s)) e
      ∙ ap (λ cs. if_drawn (((play y).effect v).gives s) ++ cs) (challenges-same rest vs (((play y).effect v).after s))

  finishes-same : {xs ys : List X} → AreSame play sides xs ys → (vs : List (Value F EF)) (s : S) →
      Finishes play xs vs s → Finishes play ys vs s
  finishes-same none vs s h = h
  finishes-same (more e f rest) [] s h = h
  finishes-same (more {y} {xs} {ys} e f rest) (v ∷ vs) s h =
      let there = subst (λ p. p.Fits v × (p.effect v).fits × IsSome ((p.effect v).gives s)
      × Finishes play xs vs ((p.effect v).after s)) e h in
      (there.0, there.1, there.2, finishes-same rest vs (((play y).effect v).after s) there.3)

  chosen-same : {xs ys : List X} → AreSame play sides xs ys → (vs : List (Value F EF)) (s : S) →
      AreChosen play xs vs s → AreChosen play ys vs s
  chosen-same none vs s h = h
  chosen-same (more e f rest) [] s h = h
  chosen-same (more {y} {xs} {ys} e f rest) (v ∷ vs) s h =
      let there = subst (λ p. p.IsChosen s v × AreChosen play xs vs ((p.effect v).after s)) e h in
      (there.0, chosen-same rest vs (((play y).effect v).after s) there.1)

-- ---- scripts

-- separators bind transcripts to the same seed and the same pattern
pub record SameSeeds (digest_of : List ℕ → List ℕ) (one other : HeldSeparator) : Type 0 where
  pub seeds : seed_of digest_of one ≡ seed_of digest_of other
  pub patterns : one.pattern ≡ other.pattern

pub seeds-turned : {digest_of : List ℕ → List ℕ} {one other : HeldSeparator} →
    SameSeeds digest_of one other → SameSeeds digest_of other one
seeds-turned same = record { seeds = sym same.seeds; patterns = sym same.patterns }

abbrev driving : {S : Type 0} → S → PatternSteps → ℕ → List ℕ → Driving S
driving challenger pattern position bytes = record {
  transcript = record {
    challenger = challenger;
    playing = record { pattern = pattern; position = position; finished = false };
  };
  bytes = bytes;
}

module _ {X S Symbol I F EF O Ac : Type 0} (rules : Rules S Symbol I F EF O Ac) (play : X → Play S Symbol F EF O)
    (sides : X → Sides S F EF) {one other : HeldSeparator} (seeds : SameSeeds rules.digest_of one other) (start : S)
    {xs ys : List X} (same : AreSame play sides xs ys) where
  seeded-same : (vs : List (Value F EF)) → front.seeded rules play (with_steps (script_under start one xs) xs vs)
      ≡ front.seeded rules play (with_steps (script_under start other ys) ys vs)
  seeded-same vs = ap (λ bytes. observed_all rules.alphabet.item.observed start (rules.alphabet.items bytes)) seeds.seeds

  finished-same : (vs : List (Value F EF)) → IsFinished rules play (with_steps (script_under start one xs) xs vs) →
      IsFinished rules play (with_steps (script_under start other ys) ys vs)
  finished-same vs h = record {
    in_pattern = sym (interactions-same play sides same) ∙ h.in_pattern
        ∙ ap (λ n. take n one.pattern.steps) (lengths-same play sides same)
        ∙ ap (λ p. take (length ys) p.steps) seeds.patterns;
    seed_fits = λ long. h.seed_fits (subst (λ bytes. rules.alphabet.is_too_long (length bytes)) (sym seeds.seeds) long);
    finishes = subst (λ s. Finishes play ys vs s) (seeded-same vs) (finishes-same play sides same vs _ h.finishes);
  }

  least-same : (vs : List (Value F EF)) → AreLeast rules play (with_steps (script_under start one xs) xs vs) →
      AreLeast rules play (with_steps (script_under start other ys) ys vs)
  least-same vs h = subst (λ s. AreChosen play ys vs s) (seeded-same vs) (chosen-same play sides same vs _ h)

  whole-same : (vs : List (Value F EF)) → IsWhole rules play (with_steps (script_under start one xs) xs vs) →
      IsWhole rules play (with_steps (script_under start other ys) ys vs)
  whole-same vs h = sym (interactions-same play sides same) ∙ h ∙ ap (λ p. p.steps) seeds.patterns

  proof-same : (vs : List (Value F EF)) (bytes : List ℕ) (witnesses : List F) →
      IsProof rules play (with_steps (script_under start one xs) xs vs) bytes witnesses →
      IsProof rules play (with_steps (script_under start other ys) ys vs) bytes witnesses
  proof-same vs bytes witnesses h = record {
    finished = finished-same vs h.finished;
    whole = whole-same vs h.whole;
    wire_is = h.wire_is ∙ wires-same play sides same vs;
    carries = h.carries ∙ picked-same play sides if_carried same vs;
  }

  drawn-same : (vs : List (Value F EF)) → front.challenges rules play (with_steps (script_under start one xs) xs vs)
      ≡ front.challenges rules play (with_steps (script_under start other ys) ys vs)
  drawn-same vs = challenges-same play sides same vs _ ∙ ap (λ s. challenges play ys vs s) (seeded-same vs)

  end-same : (vs : List (Value F EF)) → front.last rules play (with_steps (script_under start one xs) xs vs)
      ≡ front.last rules play (with_steps (script_under start other ys) ys vs)
  end-same vs = after-same play sides same vs _ ∙ ap (λ s. after play ys vs s) (seeded-same vs)

  outcome-same : (vs received : List (Value F EF)) (drawn : List (Challenge F EF)) (end : S) →
      IsOutcome rules play (with_steps (script_under start one xs) xs vs) received drawn end →
      IsOutcome rules play (with_steps (script_under start other ys) ys vs) received drawn end
  outcome-same vs received drawn end h = record {
    received_is = h.received_is ∙ picked-same play sides if_in_proof same vs;
    drawn_is = h.drawn_is ∙ drawn-same vs;
    end_is = h.end_is ∙ end-same vs;
  }

  prover_run-same : (sent vs : List (Value F EF)) →
      IsProverRun rules play (with_steps (script_under start one xs) xs vs) sent →
      IsProverRun rules play (with_steps (script_under start other ys) ys vs) sent
  prover_run-same sent vs h = record {
    finished = finished-same vs h.finished;
    whole = whole-same vs h.whole;
    handed = h.handed ∙ picked-same play sides if_sent same vs;
    least = least-same vs h.least;
  }

  pub proved-same : (sent : List (Value F EF)) (narg : List ℕ) (witnesses carried : List F)
      (drawn : List (Challenge F EF)) (end : S) →
      IsProved rules play (script_under start one xs) sent narg witnesses carried drawn end →
      IsProved rules play (script_under start other ys) sent narg witnesses carried drawn end
  proved-same sent narg witnesses carried drawn end h = record {
    values = h.values;
    outcome = record {
      is_run = prover_run-same sent h.values h.outcome.is_run;
      narg_is = h.outcome.narg_is ∙ wires-same play sides same h.values;
      witnesses_is = h.outcome.witnesses_is ∙ picked-same play sides if_witness same h.values;
      carried_is = h.outcome.carried_is ∙ picked-same play sides if_carried same h.values;
      drawn_is = h.outcome.drawn_is ∙ drawn-same h.values;
      end_is = h.outcome.end_is ∙ end-same h.values;
    };
  }

  -- ---- where and why they are refused

  playing-same : (vs : List (Value F EF)) → playing_after (with_steps (script_under start one xs) xs vs)
      ≡ playing_after (with_steps (script_under start other ys) ys vs)
  playing-same vs = ap (λ p. record { pattern = p; position = length xs; finished = false }) seeds.patterns
      ∙ ap (λ n. record { pattern = other.pattern; position = n; finished = false }) (lengths-same play sides same)

  driving-same : (vs : List (Value F EF)) (bytes : List ℕ) →
      driving_after rules play (with_steps (script_under start one xs) xs vs) bytes
      ≡ driving_after rules play (with_steps (script_under start other ys) ys vs) bytes
  driving-same vs bytes = ap (λ s. driving s one.pattern (length xs) bytes) (end-same vs)
      ∙ ap (λ p. driving (front.last rules play (with_steps (script_under start other ys) ys vs)) p (length xs) bytes)
      seeds.patterns
      ∙ ap (λ n. driving (front.last rules play (with_steps (script_under start other ys) ys vs)) other.pattern n bytes)
      (lengths-same play sides same)

  end_refused-same : (bytes : List ℕ) (witnesses : List F) (position : ℕ) (e : TranscriptError) →
      RefusesAtEnd rules play (script_under start one xs) bytes witnesses position e →
      RefusesAtEnd rules play (script_under start other ys) bytes witnesses position e
  end_refused-same bytes witnesses position e h = record {
    place = h.place ∙ lengths-same play sides same;
    values = h.values;
    finished = finished-same h.values h.finished;
    left = h.left;
    read = h.read ∙ ap (λ wire. wire ++ h.left) (wires-same play sides same h.values);
    carries = h.carries ∙ picked-same play sides if_carried same h.values;
    refuses = subst (λ d. RefusesEnd d e) (driving-same h.values h.left) h.refuses;
  }

  end_unproved-same : (sent : List (Value F EF)) (position : ℕ) (e : TranscriptError) →
      RefusesToProveEnd rules play (script_under start one xs) sent position e →
      RefusesToProveEnd rules play (script_under start other ys) sent position e
  end_unproved-same sent position e h = record {
    place = h.place ∙ lengths-same play sides same;
    values = h.values;
    finished = finished-same h.values h.finished;
    least = least-same h.values h.least;
    handed = h.handed ∙ picked-same play sides if_sent same h.values;
    refuses = subst (λ p. IsPatternError (λ m. FaultOfPlayEnd p (pattern_error_of m)) e) (playing-same h.values) h.refuses;
  }

-- what is so of prefixes, and the other way round
module _ {X S Symbol I F EF O Ac : Type 0} (rules : Rules S Symbol I F EF O Ac) (play : X → Play S Symbol F EF O)
    (sides : X → Sides S F EF) {one other : HeldSeparator} (seeds : SameSeeds rules.digest_of one other) (start : S)
    {xs ys : List X} (same : AreSame play sides xs ys) where
  pub accepts-same : (bytes : List ℕ) (witnesses : List F) (received : List (Value F EF)) (drawn : List (Challenge F EF))
      (end : S) → Accepts rules play (script_under start one xs) bytes witnesses received drawn end →
      Accepts rules play (script_under start other ys) bytes witnesses received drawn end
  accepts-same bytes witnesses received drawn end h = record {
    values = h.values;
    proof = proof-same rules play sides seeds start same h.values bytes witnesses h.proof;
    outcome = outcome-same rules play sides seeds start same h.values received drawn end h.outcome;
    only = λ others is. h.only others
        (proof-same rules play sides (seeds-turned seeds) start (turned play sides same) others bytes witnesses is);
  }

  pub none-same : (bytes : List ℕ) (witnesses : List F) →
      HasNoProof rules play (script_under start one xs) bytes witnesses →
      HasNoProof rules play (script_under start other ys) bytes witnesses
  none-same bytes witnesses h vs is =
      h vs (proof-same rules play sides (seeds-turned seeds) start (turned play sides same) vs bytes witnesses is)

  pub none_proved-same : (sent : List (Value F EF)) →
      ((vs : List (Value F EF)) → IsProverRun rules play (with_steps (script_under start one xs) xs vs) sent → ⊥) →
      (vs : List (Value F EF)) → IsProverRun rules play (with_steps (script_under start other ys) ys vs) sent → ⊥
  none_proved-same sent h vs is =
      h vs (prover_run-same rules play sides (seeds-turned seeds) start (turned play sides same) sent vs is)

  step_refused-same : (bytes : List ℕ) (witnesses : List F) (position : ℕ) (e : TranscriptError) →
      RefusesAtStep rules play sides (script_under start one xs) bytes witnesses position e →
      RefusesAtStep rules play sides (script_under start other ys) bytes witnesses position e
  step_refused-same bytes witnesses position e h =
      let there = splits play sides h.before h.step h.later (subst (λ l. AreSame play sides l ys) h.steps same) in
      let vs = h.values in
      let here = driving_after rules play (with_steps (script_under start other there.front) there.front vs) h.left in
      let refuses = subst (λ d. OrHalts ((sides h.step).verifier h.witness) d e h.after)
      (driving-same rules play sides seeds start there.same vs h.left) h.refuses in
      record {
        before = there.front;
        step = there.next;
        later = there.later;
        steps = there.steps;
        place = h.place ∙ lengths-same play sides there.same;
        values = vs;
        finished = finished-same rules play sides seeds start there.same vs h.finished;
        left = h.left;
        read = h.read ∙ ap (λ wire. wire ++ h.left) (wires-same play sides there.same vs);
        witness = h.witness;
        unused = h.unused;
        brought = subst (λ p. IsCarriedTo p.place h.witness) there.plays h.brought;
        carries = h.carries ∙ ap (λ us. us ++ (one_witness h.witness ++ h.unused))
            (picked-same play sides if_carried there.same vs);
        after = h.after;
        refuses = subst (λ s. OrHalts (s.verifier h.witness) here e h.after) there.refuses refuses;
      }

  step_unproved-same : (sent : List (Value F EF)) (position : ℕ) (e : TranscriptError) →
      RefusesToProveStep rules play sides (script_under start one xs) sent position e →
      RefusesToProveStep rules play sides (script_under start other ys) sent position e
  step_unproved-same sent position e h =
      let there = splits play sides h.before h.step h.later (subst (λ l. AreSame play sides l ys) h.steps same) in
      let vs = h.values in
      let here = driving_after rules play (with_steps (script_under start other there.front) there.front vs)
      (wires play there.front vs) in
      let refuses = subst (λ d. OrHalts ((sides h.step).prover h.given) d e h.after)
      (driving-same rules play sides seeds start there.same vs (wires play h.before vs)
      ∙ ap (λ wire. driving_after rules play (with_steps (script_under start other there.front) there.front vs) wire)
      (wires-same play sides there.same vs)) h.refuses in
      record {
        before = there.front;
        step = there.next;
        later = there.later;
        steps = there.steps;
        place = h.place ∙ lengths-same play sides there.same;
        values = vs;
        finished = finished-same rules play sides seeds start there.same vs h.finished;
        least = least-same rules play sides seeds start there.same vs h.least;
        given = h.given;
        unused = h.unused;
        is_handed = subst (λ p. p.IsHanded h.given) there.plays h.is_handed;
        handed = h.handed ∙ ap (λ us. us ++ (if_sent (play h.step).place h.given ++ h.unused))
            (picked-same play sides if_sent there.same vs)
            ∙ ap (λ p. picked play if_sent there.front vs ++ (if_sent p.place h.given ++ h.unused)) there.plays;
        after = h.after;
        refuses = subst (λ s. OrHalts (s.prover h.given) here e h.after) there.refuses refuses;
      }

  pub refused-same : (bytes : List ℕ) (witnesses : List F) (position : ℕ) (e : TranscriptError) →
      RefusesProof rules play sides (script_under start one xs) bytes witnesses position e →
      RefusesProof rules play sides (script_under start other ys) bytes witnesses position e
  refused-same bytes witnesses position e = elim [
    | inl (place, why) ↦ inl (place, subst (λ seed. RefusesStart (rules.alphabet.is_too_long (length seed)) e) seeds.seeds why)
    | inr (inl h) ↦ inr (inl (step_refused-same bytes witnesses position e h))
    | inr (inr h) ↦ inr (inr (end_refused-same rules play sides seeds start same bytes witnesses position e h))
  ]

  pub unproved-same : (sent : List (Value F EF)) (position : ℕ) (e : TranscriptError) →
      RefusesToProve rules play sides (script_under start one xs) sent position e →
      RefusesToProve rules play sides (script_under start other ys) sent position e
  unproved-same sent position e = elim [
    | inl (place, why) ↦ inl (place, subst (λ seed. RefusesStart (rules.alphabet.is_too_long (length seed)) e) seeds.seeds why)
    | inr (inl h) ↦ inr (inl (step_unproved-same sent position e h))
    | inr (inr h) ↦ inr (inr (end_unproved-same rules play sides seeds start same sent position e h))
  ]
