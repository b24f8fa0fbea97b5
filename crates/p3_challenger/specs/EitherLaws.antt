-- Laws of values of two types that are observed in a row: observations of either are one observation.
use Rattle.std.proofs.Common.{◌≡◌, ◌⊎◌, inl, inr, List, ◌∷◌, ◌++◌}
use Rattle.p3_challenger_core.specs.{Sponge.IsFed, Observation.{Observation, IsObservation, LeavesFed, LeavesAfter}}

module _ {S Symbol A B : Type 0} (o : Observation S Symbol A) (p : Observation S Symbol B) where
  abbrev symbols_of : A ⊎ B → List Symbol
  symbols_of (inl x) = o.symbols x
  symbols_of (inr x) = p.symbols x

  abbrev observed_by : S → A ⊎ B → S
  observed_by s (inl x) = o.observed s x
  observed_by s (inr x) = p.observed s x

  abbrev MayLeave : S → A ⊎ B → S → Type 0
  MayLeave s (inl x) t = o.may_leave s x t
  MayLeave s (inr x) t = p.may_leave s x t

  abbrev pub either : Observation S Symbol (A ⊎ B)
  either = record { symbols = symbols_of; observed = observed_by; may_leave = MayLeave }

  module _ (fed : S → List Symbol → S) (o_laws : IsObservation fed o) (p_laws : IsObservation fed p) where
    observes : (s : S) (x : A ⊎ B) → IsFed fed s (symbols_of x) (observed_by s x)
    observes s (inl x) = o_laws.observes s x
    observes s (inr x) = p_laws.observes s x

    observes_after : (s : S) (y : Symbol) (ys : List Symbol) (x : A ⊎ B) →
        observed_by (fed s (y ∷ ys)) x ≡ fed s ((y ∷ ys) ++ symbols_of x)
    observes_after s y ys (inl x) = o_laws.observes_after s y ys x
    observes_after s y ys (inr x) = p_laws.observes_after s y ys x

    leaves : (s : S) (x : A ⊎ B) (t : S) → MayLeave s x t → LeavesFed fed s (symbols_of x) t
    leaves s (inl x) t h = o_laws.leaves s x t h
    leaves s (inr x) t h = p_laws.leaves s x t h

    leaves_after : (s : S) (y : Symbol) (ys : List Symbol) (x : A ⊎ B) (t : S) →
        MayLeave (fed s (y ∷ ys)) x t → LeavesAfter fed s (y ∷ ys) (symbols_of x) t
    leaves_after s y ys (inl x) t h = o_laws.leaves_after s y ys x t h
    leaves_after s y ys (inr x) t h = p_laws.leaves_after s y ys x t h

    pub either-is_observation : IsObservation fed either
    either-is_observation =
        record {
          observes = observes;
          observes_after = observes_after;
          leaves = leaves;
          leaves_after =
              leaves_after;
        }
