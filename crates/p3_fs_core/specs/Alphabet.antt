-- Alphabets of a challenger, and the reasons to refuse the observation of a byte string.
use Rattle.std.specs.Prelude.{◌≡◌, ℕ, ◌⊎◌, List, [], ◌∷◌}
use Rattle.p3_challenger_core.specs.Observation.{Observation, LeavesInCalls}
use Rattle.p3_challenger_core.specs.declared.error.ChallengerError.{ChallengerError, TheVariants.{OutOfMemory, TooLong}}

-- the state after an observation with this error: the byte string was too long, and nothing of it was absorbed;
-- or memory was refused
abbrev pub RefusesBytes : {S : Type 0} → Type 0 → (S → Type 0) → S → ChallengerError → S → Type 0
RefusesBytes IsTooLong MayLeave before OutOfMemory after = (IsTooLong → ⊥) × MayLeave after
RefusesBytes IsTooLong MayLeave before TooLong after = IsTooLong × (after ≡ before)
RefusesBytes IsTooLong MayLeave before _ after = ⊥

-- the state after items, observed as one slice or one by one, are refused
abbrev pub LeavesItems : {S Symbol T : Type 0} → Observation S Symbol T → (S → List T → S → Type 0) → S → List T → S →
    Type 0
LeavesItems o slice_may_leave s items t = slice_may_leave s items t ⊎ LeavesInCalls o.observed o.may_leave s items t

-- each element of the list is an item
abbrev pub AreItems : {T : Type 0} → (T → Type 0) → List T → Type 0
AreItems IsItem [] = Unit {0}
AreItems IsItem (x ∷ xs) = IsItem x × AreItems IsItem xs

-- an alphabet: the items of a byte string, the lengths that are too long, and the observation of an item and of
-- a slice of items
pub record Alphabet (S Symbol I : Type 0) : Type 1 where
  pub items : List ℕ → List I
  pub is_too_long : ℕ → Type 0
  pub item : Observation S Symbol I
  pub slice_may_leave : S → List I → S → Type 0

abbrev pub alphabet_of : {S Symbol I : Type 0} → (List ℕ → List I) → (ℕ → Type 0) → Observation S Symbol I →
    (S → List I → S → Type 0) → Alphabet S Symbol I
alphabet_of items is_too_long item slice_may_leave =
    record { items = items; is_too_long = is_too_long; item = item; slice_may_leave = slice_may_leave }
