-- A refusal tells which limit is met, where values are drawn one after another.
use Rattle.std.proofs.Common.{◌≡◌, ℕ, zero, suc, None, List, [], ◌∷◌, ◌++◌, refl, inl, inr}
use Rattle.p3_challenger_core.specs.{Sampling.{Sampling, IsSampling, RefusesDraw}, SamplingLaws.in_row-is_sampling}
use Rattle.p3_challenger_core.specs.{SamplingLaws.refused-in_row, declared.error.ChallengerError.ChallengerError}
use Rattle.p3_challenger_core.specs.declared.error.ChallengerError.TheVariants.{DrawLimit, NoWitness, TooLong}
use Rattle.p3_driver_core.specs.Rejecting.{Rule, taken, RefusesTaken, keeps, RefusesKeeps, drawing_rejecting}
use Rattle.p3_driver_core.specs.Effects.{drawing_list}
use Rattle.p3_step_laws.specs.OneReason.{TellsLimits}

-- where no draw is refused for an error, which is not that it meets its limit, draws until a rule has taken so many are
-- not either
module _ {S T : Type 0} (d : Sampling S T) (rule : Rule T) (e : ChallengerError) (other : e ≡ DrawLimit → ⊥)
    (never : (s t : S) → RefusesDraw d e s t → ⊥) where
  taken-unrefused : (n : ℕ) (kept : List T) (s t : S) → RefusesTaken d rule n kept e s t → ⊥
  unfolding RefusesTaken
  taken-unrefused zero kept s t h = other h.0
  taken-unrefused (suc more) kept s t (inl h) = never s t h
  taken-unrefused (suc more) kept s t (inr h) = taken-unrefused more kept (d.after s) t h.3

  keeps-unrefused : (limit n : ℕ) (kept : List T) (s t : S) → RefusesKeeps d rule limit n kept e s t → ⊥
  unfolding RefusesKeeps
  keeps-unrefused limit zero kept s t h = h
  keeps-unrefused limit (suc more) kept s t (inl h) = taken-unrefused limit kept s t h
  keeps-unrefused limit (suc more) kept s t (inr h) =
      keeps-unrefused limit more (kept ++ (h.0 ∷ [])) (taken d rule limit kept s).after t h.2

module _ {S T : Type 0} {next : S → S} {d : Sampling S T} (laws : IsSampling next d) where
  pub drawing_list-tells : {Symbol : Type 0} (n : ℕ) → TellsLimits (drawing_list {Symbol = Symbol} d n)
  drawing_list-tells n =
      let refused = refused-in_row next d laws n in
      record {
        limit = λ s t. elim [
          | inl h ↦ absurd h
          | inr h ↦ (in_row-is_sampling next d laws n).limit_gives_none s (refused DrawLimit s t h).0
        ];
        too_long = λ s t. elim [ inl h ↦ λ fits. h | inr h ↦ λ fits. refused TooLong s t h ];
        witness = λ s t. elim [ inl h ↦ h | inr h ↦ refused NoWitness s t h ];
      }

  module _ (rule : Rule T) where
    taken-limit : (n : ℕ) (kept : List T) (s t : S) → RefusesTaken d rule n kept DrawLimit s t →
        (taken d rule n kept s).gives ≡ None
    unfolding taken RefusesTaken
    taken-limit zero kept s t h = refl
    taken-limit (suc more) kept s t (inl h) = rw (laws.limit_gives_none s h.0)
    taken-limit (suc more) kept s t (inr (x, is, refused, later)) =
        rw (is, refused) (taken-limit more kept (d.after s) t later)

    keeps-limit : (limit n : ℕ) (kept : List T) (s t : S) → RefusesKeeps d rule limit n kept DrawLimit s t →
        (keeps d rule limit n kept s).gives ≡ None
    unfolding keeps RefusesKeeps
    keeps-limit limit zero kept s t h = absurd h
    keeps-limit limit (suc more) kept s t (inl h) = rw (taken-limit limit kept s t h)
    keeps-limit limit (suc more) kept s t (inr (x, is, later)) =
        rw is (keeps-limit limit more (kept ++ (x ∷ [])) (taken d rule limit kept s).after t later)

    pub rejecting-tells : {Symbol : Type 0} (limit n : ℕ) →
        TellsLimits (drawing_rejecting {Symbol = Symbol} d rule limit n)
    rejecting-tells limit n =
        let never = λ (e : ChallengerError) (other : e ≡ DrawLimit → ⊥) (none : (s t : S) → RefusesDraw d e s t → ⊥).
        keeps-unrefused d rule e other none limit n [] in
        record {
          limit = λ s t. elim [ inl h ↦ absurd h | inr h ↦ keeps-limit limit n [] s t h ];
          too_long = λ s t. elim [ inl h ↦ λ _. h | inr h ↦ λ _. never TooLong (λ is. cc) (λ _ _ h. h) s t h ];
          witness = λ s t. elim [ inl h ↦ h | inr h ↦ never NoWitness (λ is. cc) (λ _ _ h. h) s t h ];
        }
