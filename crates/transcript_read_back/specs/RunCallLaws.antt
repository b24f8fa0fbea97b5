-- The calls of a run: that there are some, what they observe, and the state that they leave.
use Rattle.std.proofs.Common.{◌≡◌, ℕ, List, [], ◌∷◌, ◌++◌, IsSome, map, flat_map, replicate, refl, sym, ap, ap₂, ◌∙◌}
use Rattle.std.proofs.lemmas.List.{append-nil}
use Rattle.p3_challenger.specs.{Sponge.after_steps, Segments.{Call, observe, draw}, Queries.observed_values, Plays.Play}
use Rattle.p3_challenger.specs.CallRowLaws.{observed_values-append, observed_values-observes, observed_values-draws}
use Rattle.p3_challenger.specs.{Binding.{IsHeld, AreHeld}, Fronts.{Run, IsFinished, seed, seeded, last}, Rules.Rules}
use Rattle.p3_challenger.specs.{Runs.{Finishes, symbols, absorbed, after}, Values.Value}
use Rattle.transcript_read_back.specs.{CallByCall.{after_calls, IsCallByCall}, AmidLaws.FedExactly}
use Rattle.transcript_read_back.specs.RunCalls.{amid_draws, AreOfStep, AreOfSteps, AreOfRun}
use Rattle.p3_challenger.specs.Segments as segments
use Rattle.p3_challenger.specs.Fronts as fronts

-- ---- what calls observe

observed-amid : {T : Type 0} (before : ℕ) (values : List T) (later : ℕ) →
    observed_values (amid_draws before values later) ≡ values
observed-amid before values later =
    observed_values-append (replicate before draw) (map observe values ++ replicate later draw)
    ∙ ap₂ (λ a b. a ++ b) (observed_values-draws before)
    (observed_values-append (map observe values) (replicate later draw)
    ∙ ap₂ (λ a b. a ++ b) (observed_values-observes values) (observed_values-draws later))
    ∙ append-nil values

module _ {S T M : Type 0} (run : S → List (Call T) → segments.Run T M S) where
  module _ {X F EF O : Type 0} (play : X → Play S T F EF O) where
    observed-steps : (steps : List X) (values : List (Value F EF)) (s : S) (calls : List (Call T)) →
        AreOfSteps run play steps values s calls → observed_values calls ≡ symbols play steps values
    observed-steps [] values s calls are = ap observed_values are
    observed-steps (x ∷ steps) [] s calls are = ap observed_values are
    observed-steps (x ∷ steps) (v ∷ values) s calls (first, rest, split, here, later) =
        ap observed_values split
        ∙ observed_values-append first rest
        ∙ ap₂ (λ a b. a ++ b) (ap observed_values here.are ∙ observed-amid here.before _ here.later)
        (observed-steps steps values _ rest later)

    module _ {I Ac : Type 0} (rules : Rules S T I F EF O Ac) where
      -- they observe the run's symbols
      pub observed-run : (x : Run X F EF S) (calls : List (Call T)) → AreOfRun run play rules x calls →
          observed_values calls ≡ fronts.symbols rules play x
      observed-run x calls h =
          ap observed_values h.are
          ∙ observed_values-append h.of_seed h.of_steps
          ∙ ap₂ (λ a b. a ++ b) (ap observed_values h.observes ∙ observed_values-observes _)
          (observed-steps x.steps x.values (seeded rules play x) h.of_steps h.follow)

  -- ---- the state after them

  module _ (fed : S → List T → S) (next : S → S) (by : IsCallByCall run fed next) where
    abbrev leaves : S → List (Call T) → S
    leaves s calls = after_calls run s calls

    module _ {X F EF O : Type 0} (play : X → Play S T F EF O) where
      after-steps : (steps : List X) (values : List (Value F EF)) (s : S) (calls : List (Call T)) →
          AreOfSteps run play steps values s calls → after play steps values s ≡ leaves s calls
      after-steps [] values s calls are = sym (ap (leaves s) are ∙ by.none s)
      after-steps (x ∷ steps) [] s calls are = sym (ap (leaves s) are ∙ by.none s)
      after-steps (x ∷ steps) (v ∷ values) s calls (first, rest, split, here, later) =
          after-steps steps values _ rest later
          ∙ ap (λ t. leaves t rest) here.lead
          ∙ sym (ap (leaves s) split ∙ by.more s first rest)

      module _ {I Ac : Type 0} (rules : Rules S T I F EF O Ac) where
        pub after-run : (x : Run X F EF S) (calls : List (Call T)) → AreOfRun run play rules x calls →
            last rules play x ≡ after_calls run x.challenger calls
        after-run x calls h =
            after-steps x.steps x.values (seeded rules play x) h.of_steps h.follow
            ∙ ap (λ t. leaves t h.of_steps) h.lead
            ∙ sym (ap (leaves x.challenger) h.are ∙ by.more x.challenger h.of_seed h.of_steps)

    -- ---- that there are some

    step-has_calls : (symbols : List T) (s t : S) → FedExactly next fed symbols s t →
        (calls : List (Call T)) × AreOfStep run symbols s t calls
    step-has_calls symbols s t step =
        let first = replicate step.before draw in
        let rest = map observe symbols ++ replicate step.later draw in (
          amid_draws step.before symbols step.later,
          record {
            before = step.before;
            later = step.later;
            are = refl;
            lead = step.is
                ∙ by.drawn_is step.later (fed (after_steps next step.before s) symbols)
                ∙ ap (λ u. leaves u (replicate step.later draw))
                (by.fed_is (after_steps next step.before s) symbols)
                ∙ sym (by.more (after_steps next step.before s) (map observe symbols) (replicate step.later draw))
                ∙ ap (λ u. leaves u rest) (by.drawn_is step.before s)
                ∙ sym (by.more s first rest);
          },
        )

    module _ {X F EF O : Type 0} (play : X → Play S T F EF O) (IsOwn : O → Type 0) where
      -- each step draws, feeds its symbols, and draws
      abbrev pub EachExactly : Type 0
      EachExactly =
          (x : X) (v : Value F EF) (s : S) → (play x).Fits v → IsHeld IsOwn ((play x).absorbed v) →
          IsSome (((play x).effect v).gives s) →
          FedExactly next fed ((play x).effect v).symbols s (((play x).effect v).after s)

      steps-have_calls : EachExactly → (steps : List X) (values : List (Value F EF)) (s : S) →
          Finishes play steps values s → AreHeld IsOwn (absorbed play steps values) →
          (calls : List (Call T)) × AreOfSteps run play steps values s calls
      steps-have_calls each [] [] s p h = ([], refl)
      steps-have_calls each [] (v ∷ values) s p h = absurd p
      steps-have_calls each (x ∷ steps) [] s p h = absurd p
      steps-have_calls each (x ∷ steps) (v ∷ values) s p h =
          let here = step-has_calls ((play x).effect v).symbols s (((play x).effect v).after s)
          (each x v s p.0 h.0 p.2) in
          let later = steps-have_calls each steps values (((play x).effect v).after s) p.3 h.1 in
          (here.0 ++ later.0, (here.0, later.0, refl, here.1, later.1))

    module _ {X I F EF O Ac : Type 0} (rules : Rules S T I F EF O Ac) (play : X → Play S T F EF O)
        (each : EachExactly play rules.IsOwn) where
      pub run-has_calls : (x : Run X F EF S) → IsFinished rules play x →
          AreHeld rules.IsOwn (fronts.absorbed rules play x) →
          seeded rules play x
          ≡ fed x.challenger (flat_map rules.alphabet.item.symbols (rules.alphabet.items (seed rules play x))) →
          (calls : List (Call T)) × AreOfRun run play rules x calls
      run-has_calls x finished held begun =
          let of_seed = map observe
          (flat_map rules.alphabet.item.symbols (rules.alphabet.items (seed rules play x))) in
          let later = steps-have_calls play rules.IsOwn each x.steps x.values (seeded rules play x) finished.finishes
          held in (
            of_seed ++ later.0,
            record {
              of_seed = of_seed;
              of_steps = later.0;
              are = refl;
              observes = refl;
              lead = begun ∙ by.fed_is x.challenger _;
              follow = later.1;
            },
          )
