-- The front of a whole run is a front.
use Rattle.std.proofs.Common.{ℕ, zero, suc, ◌≤◌, List, [], ◌∷◌, length, take, inr, sym, ap, ◌∙◌}
use Rattle.std.proofs.lemmas.List.{length-take-le, take-map}
use Rattle.p3_binding.specs.Binding.{AreHeld, FeedTheSame}
use Rattle.p3_runs.specs.{Fronts.{Run, IsFinished, IsWhole, pattern, seeded}, Plays.Play, Rules.Rules, Values.Value}
use Rattle.p3_runs.specs.Runs.{Finishes, absorbed}
use Rattle.p3_script_binding.specs.AnswersBound.{front_of, FeedTheSameUpTo}
use Rattle.p3_runs.specs.Fronts as fronts

module _ {X S Symbol F EF O : Type 0} (play : X → Play S Symbol F EF O) where
  finishes-front : (n : ℕ) (xs : List X) (vs : List (Value F EF)) (s : S) → Finishes play xs vs s →
      Finishes play (take n xs) (take n vs) s
  finishes-front zero xs vs s p = tt
  finishes-front (suc n) [] [] s p = tt
  finishes-front (suc n) [] (v ∷ vs) s p = absurd p
  finishes-front (suc n) (x ∷ xs) [] s p = absurd p
  finishes-front (suc n) (x ∷ xs) (v ∷ vs) s p = (p.0, p.1, p.2, finishes-front n xs vs _ p.3)

  held-front : (IsOwn : O → Type 0) (n : ℕ) (xs : List X) (vs : List (Value F EF)) → AreHeld IsOwn (absorbed play xs vs) →
      AreHeld IsOwn (absorbed play (take n xs) (take n vs))
  held-front IsOwn zero xs vs h = tt
  held-front IsOwn (suc n) [] [] h = tt
  held-front IsOwn (suc n) [] (v ∷ vs) h = tt
  held-front IsOwn (suc n) (x ∷ xs) [] h = tt
  held-front IsOwn (suc n) (x ∷ xs) (v ∷ vs) h = (h.0, held-front IsOwn n xs vs h.1)

module _ {X S Symbol I F EF O Ac : Type 0} (rules : Rules S Symbol I F EF O Ac) (play : X → Play S Symbol F EF O) where
  front-finished : (n : ℕ) (x : Run X F EF S) → IsFinished rules play x → IsWhole rules play x →
      n ≤ length x.steps → IsFinished rules play (front_of n x)
  front-finished n x p whole within =
      record {
        in_pattern = sym (take-map (λ z. (play z).interaction) n x.steps) ∙ ap (take n) whole
            ∙ ap (λ m. take m (pattern x)) (sym (length-take-le n x.steps within));
        seed_fits = p.seed_fits;
        finishes = finishes-front play n x.steps x.values (seeded rules play x) p.finishes;
      }

  -- fronts of whole runs that feed the same symbols
  pub fronts-feed : (n : ℕ) (x y : Run X F EF S) → IsFinished rules play x → IsWhole rules play x →
      AreHeld rules.IsOwn (fronts.absorbed rules play x) → IsFinished rules play y → IsWhole rules play y →
      AreHeld rules.IsOwn (fronts.absorbed rules play y) → FeedTheSameUpTo rules play n x y →
      FeedTheSame rules play (front_of n x) (front_of n y)
  fronts-feed n x y p x_whole x_held q y_whole y_held feed =
      record {
        finished = (front-finished n x p x_whole feed.within.0, front-finished n y q y_whole feed.within.1);
        held = (
          held-front play rules.IsOwn n x.steps x.values x_held,
          held-front play rules.IsOwn n y.steps y.values y_held,
        );
        as_far = inr (length-take-le n x.steps feed.within.0 ∙ sym (length-take-le n y.steps feed.within.1));
        same = feed.same;
      }
