-- A state to which symbols are fed, after some draws and before some.
use Rattle.std.proofs.Common.{◌≡◌, ℕ, List, [], ◌∷◌, ◌++◌, flat_map, sym, ap, ◌∙◌}
use Rattle.p3_challenger.specs.Sponge.{IsNonEmpty, IsStepsOn, after_steps}
use Rattle.p3_challenger.specs.Observation.{Observation, IsObservation, observed_all}
use Rattle.p3_challenger.specs.{Alphabet.AreItems, Feeding.FedAmidDraws}

module _ {S Symbol : Type 0} (next : S → S) (fed : S → List Symbol → S) where
  -- exactly so
  pub record FedExactly (symbols : List Symbol) (s t : S) : Type 0 where
    pub before : ℕ
    pub later : ℕ
    pub is : t ≡ after_steps next later (fed (after_steps next before s) symbols)

  -- what is observed is what is fed, also where that is nothing
  abbrev pub ObservesExactly : {T : Type 0} → (T → Type 0) → Observation S Symbol T → Type 0
  ObservesExactly {T} IsValue o = (x : T) → IsValue x → (s : S) → o.observed s x ≡ fed s (o.symbols x)

  pub fed-exactly : (symbols : List Symbol) (s t : S) → t ≡ fed s symbols → FedExactly symbols s t
  fed-exactly symbols s t is = record { before = 0; later = 0; is = is }

  -- symbols that are fed amid draws are fed exactly, where there are some
  pub amid-exactly : (symbols : List Symbol) (s t : S) → IsNonEmpty symbols → FedAmidDraws next fed s symbols t →
      FedExactly symbols s t
  amid-exactly symbols s t some amid =
      record {
        before = amid.before.0;
        later = amid.after.0;
        is = amid.after.1
            ∙ ap (after_steps next amid.after.0)
            (amid.feeds.exactly some ∙ ap (λ u. fed u symbols) amid.before.1);
      }

  -- a value that feeds something
  pub some-exactly : {T : Type 0} (IsValue : T → Type 0) (o : Observation S Symbol T) → IsObservation fed o →
      ((x : T) → IsValue x → IsNonEmpty (o.symbols x)) → ObservesExactly IsValue o
  some-exactly IsValue o laws some x is s = (laws.observes s x).exactly (some x is)

  module _ (fed_nothing : (s : S) → fed s [] ≡ s) where
    pub unchanged-exactly : (s : S) → FedExactly [] s s
    unchanged-exactly s = fed-exactly [] s s (sym (fed_nothing s))

    pub drawn-exactly : (s t : S) → IsStepsOn next s t → FedExactly [] s t
    drawn-exactly s t steps =
        record {
          before = 0;
          later = steps.0;
          is = steps.1 ∙ ap (after_steps next steps.0) (sym (fed_nothing s));
        }

    module _ (fed_more : (s : S) (a b : List Symbol) → fed (fed s a) b ≡ fed s (a ++ b)) where
      pub row-exactly : {T : Type 0} (IsValue : T → Type 0) (o : Observation S Symbol T) → ObservesExactly IsValue o →
          (xs : List T) → AreItems IsValue xs → (s : S) → observed_all o.observed s xs ≡ fed s (flat_map o.symbols xs)
      row-exactly IsValue o exactly [] are s = sym (fed_nothing s)
      row-exactly IsValue o exactly (x ∷ xs) are s =
          ap (λ t. observed_all o.observed t xs) (exactly x are.0 s)
          ∙ row-exactly IsValue o exactly xs are.1 (fed s (o.symbols x))
          ∙ fed_more s (o.symbols x) (flat_map o.symbols xs)
