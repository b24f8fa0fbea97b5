-- The queries of a challenger determine what it observed: strings for a hash function, states for a permutation.
use Rattle.std.specs.Prelude.{◌≡◌, ℕ, ◌⊎◌, List, [], ◌∷◌, length, slice_get, Some}
use Rattle.p3_challenger_core.specs.Segments.{Call, observe, observe_empty_array, draw, Run}

-- the values that calls observe, in order
abbrev pub observed_values : {T : Type 0} → List (Call T) → List T
observed_values [] = []
observed_values (observe x ∷ calls) = x ∷ observed_values calls
observed_values (observe_empty_array ∷ calls) = observed_values calls
observed_values (draw ∷ calls) = observed_values calls

-- two lists have a collision at some place
pub record CollideAtSomePlace {M : Type 0} (Collide : M → M → Type 0) (ms ns : List M) : Type 0 where
  pub place : ℕ
  pub one : M
  pub other : M
  pub one_is : slice_get ms place ≡ Some one
  pub other_is : slice_get ns place ≡ Some other
  pub collision : Collide one other

-- equality of any two values can be decided
abbrev pub Decides : Type 0 → Type 0
Decides T = (x y : T) → (x ≡ y) ⊎ ¬ (x ≡ y)

-- A challenger on which lists of calls run, and its pending values after them.
module _ {T A M S : Type 0} (run : List (Call T) → Run A M S) (pending : S → List T) where
  -- two lists of calls leave the same pending values
  abbrev pub LeaveSamePending : List (Call T) → List (Call T) → Type 0
  LeaveSamePending calls others = pending (run calls).after ≡ pending (run others).after

  -- calls with the same queries and the same values left pending have observed the same values
  abbrev pub ReadsBack : Type 0
  ReadsBack = (calls others : List (Call T)) → (run calls).queries ≡ (run others).queries →
      LeaveSamePending calls others → observed_values calls ≡ observed_values others

  -- Calls with equally many queries that end alike have observed the same values, or two queries at one place
  -- collide.
  abbrev pub ReadsBackOrCollides : (EndAlike : List (Call T) → List (Call T) → Type 0) (Collide : M → M → Type 0) →
      Type 0
  ReadsBackOrCollides EndAlike Collide = (calls others : List (Call T)) → length (run calls).queries
      ≡ length (run others).queries → EndAlike calls others → (observed_values calls ≡ observed_values others)
      ⊎ CollideAtSomePlace Collide (run calls).queries (run others).queries

-- A challenger on which lists of calls run, followed by a digest.
module _ {T A M D : Type 0} (run_to_digest : List (Call T) → Run A M D) where
  -- calls that end in a digest, with the same queries up to it, have observed the same values
  abbrev pub ReadsBackToDigest : Type 0
  ReadsBackToDigest = (calls others : List (Call T)) → (run_to_digest calls).queries ≡ (run_to_digest others).queries →
      observed_values calls ≡ observed_values others
