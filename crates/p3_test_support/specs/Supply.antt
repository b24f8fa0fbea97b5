-- Draws from a list of remaining values.
use Rattle.std.specs.Prelude.{◌≡◌, List, [], ◌∷◌, Option, Some, None, refl}
use Rattle.p3_challenger_core.specs.{Sampling.IsSampling, SamplingLaws.one_step}

-- the next draw, if one is left
abbrev pub first_of : {T : Type 0} → List T → Option T
first_of [] = None
first_of (x ∷ xs) = Some x

-- the values left after the next draw
abbrev pub rest_of : {T : Type 0} → List T → List T
rest_of [] = []
rest_of (x ∷ xs) = xs

-- no draw is left
abbrev pub IsUsedUp : {T : Type 0} → List T → Type 0
IsUsedUp [] = Unit {0}
IsUsedUp (x ∷ xs) = ⊥

pub used_up-none : {T : Type 0} (left : List T) → IsUsedUp left → first_of left ≡ None
used_up-none [] h = refl
used_up-none (x ∷ xs) h = absurd h

pub supply-sampled : {T : Type 0} → IsSampling {S = List T} {T = T} rest_of
    (record { sampled = first_of; after = rest_of; meets_limit = IsUsedUp; may_leave = λ _ _. ⊥ })
supply-sampled =
    record { limit_gives_none = used_up-none; steps = one_step rest_of; leaves = λ s t h. absurd h }
