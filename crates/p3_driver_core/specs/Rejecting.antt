-- Drawing until a rule has accepted n candidates.
use Rattle.std.specs.Prelude.{◌≡◌, ℕ, zero, suc, ◌<◌, Bool, true, false, List, [], ◌∷◌, ◌++◌, length, ◌⊎◌, Option, Some}
use Rattle.std.specs.{Prelude.{None, Result, MatchResult, if◌then◌else◌}, Fn.Shared}
use Rattle.p3_challenger_core.specs.{Observation.RefusesObserve, Sampling.{Sampling, RefusesDraw, draws, after_draws}}
use Rattle.p3_challenger_core.specs.declared.error.ChallengerError.{ChallengerError, TheVariants.DrawLimit}
use Rattle.p3_fs_core.specs.Steps.{Step}
use Rattle.p3_driver_core.specs.{Effects.{Effect, fitting}, Transcripts.{Meaning, without_wire}}
use denote.Ref.{Bor}

-- whether a candidate is kept, given those kept so far
abbrev pub Rule : Type 0 → Type 0
Rule T = T → List T → Bool

-- a closure computes a rule
abbrev pub Computes : {F T : Type 0} → Shared F (Bor T × (Bor (List T) × Unit {0})) Bool → F → Rule T → Type 0
Computes {F} {T} g f rule =
    (x : Bor T) (kept : Bor (List T)) (r : Bool) → g.post f (x, (kept, tt)) r → r ≡ rule x.now kept.now

-- a closure that takes the candidate by value computes a rule
abbrev pub ComputesOfValues : {F T : Type 0} → Shared F (T × (Bor (List T) × Unit {0})) Bool → F → Rule T → Type 0
ComputesOfValues {F} {T} g f rule =
    (x : T) (kept : Bor (List T)) (r : Bool) → g.post f (x, (kept, tt)) r → r ≡ rule x kept.now

-- the result of draws, which is missing where they meet a limit, and the state after them
pub record Outcome (S A : Type 0) : Type 0 where
  pub gives : Option A
  pub after : S

abbrev pub given : {S A : Type 0} → A → S → Outcome S A
given x s = record { gives = Some x; after = s }

-- what follows where a value was given
abbrev pub go_on : {S A B : Type 0} → (A → S → Outcome S B) → Option A → S → Outcome S B
go_on next None s = record { gives = None; after = s }
go_on next (Some x) s = next x s

module _ {S T : Type 0} (d : Sampling S T) (rule : Rule T) where
  -- The first candidate that the rule accepts, within a limit. Where it accepts none, the limit is met with no
  -- further draw.
  unfoldable pub taken : ℕ → List T → S → Outcome S T
  taken zero kept s = record { gives = None; after = s }
  taken (suc more) kept s =
      go_on (λ x t. if rule x kept then given x t else taken more kept t) (d.sampled s) (d.after s)

  -- why that is refused and the state left: the limit is met, or a draw is refused after candidates that the rule
  -- rejected
  unfoldable pub RefusesTaken : ℕ → List T → ChallengerError → S → S → Type 0
  RefusesTaken zero kept e s t = (e ≡ DrawLimit) × (t ≡ s)
  RefusesTaken (suc more) kept e s t = RefusesDraw d e s t
      ⊎ ((x : T) × (d.sampled s ≡ Some x) × (rule x kept ≡ false) × RefusesTaken more kept e (d.after s) t)

  -- n more candidates are kept, in order; the rejected ones in a row are limited, counted anew after each kept one
  unfoldable pub keeps : ℕ → ℕ → List T → S → Outcome S (List T)
  keeps limit zero kept s = given kept s
  keeps limit (suc more) kept s =
      let next = taken limit kept s in
      go_on (λ x t. keeps limit more (kept ++ (x ∷ [])) t) next.gives next.after

  -- why that is refused, and the state left
  unfoldable pub RefusesKeeps : ℕ → ℕ → List T → ChallengerError → S → S → Type 0
  RefusesKeeps limit zero kept e s t = ⊥
  RefusesKeeps limit (suc more) kept e s t =
      let next = taken limit kept s in
      RefusesTaken limit kept e s t
      ⊎ ((x : T) × (next.gives ≡ Some x) × RefusesKeeps limit more (kept ++ (x ∷ [])) e next.after t)

-- Memory for n values is allocated, and values are drawn until the rule has accepted n. A given number of rejections
-- in a row meets the limit.
abbrev pub drawing_rejecting : {S Symbol T : Type 0} → Sampling S T → Rule T → ℕ → ℕ → Effect S Symbol (List T)
drawing_rejecting d rule limit n =
    fitting [] (λ s. (keeps d rule limit n [] s).gives) (λ s. (keeps d rule limit n [] s).after)
    (λ e s t. RefusesObserve (λ u. u ≡ s) e t ⊎ RefusesKeeps d rule limit n [] e s t)

-- values are drawn until the rule has accepted n
abbrev pub drawn_rejecting : {S Symbol T : Type 0} → Step → Sampling S T → Rule T → ℕ → ℕ → Meaning S Symbol (List T)
drawn_rejecting interaction d rule limit n = without_wire interaction (drawing_rejecting d rule limit n)

-- a call draws a candidate that the rule accepts, or is refused
abbrev pub Takes : {S T : Type 0} → Sampling S T → Rule T → ℕ → List T → S → Result T ChallengerError → S → Type 0
Takes d rule limit kept s result t =
    MatchResult result (λ x. taken d rule limit kept s ≡ given x t) (λ e. RefusesTaken d rule limit kept e s t)

-- a call allocates memory and draws candidates until the rule has accepted n, or is refused
abbrev pub TakesAll : {S T R : Type 0} → Sampling S T → Rule T → ℕ → ℕ → (R → List T) → S → Result R ChallengerError →
    S → Type 0
TakesAll d rule limit n values s result t = MatchResult result (λ r. keeps d rule limit n [] s ≡ given (values r) t)
    (λ e. RefusesObserve (λ u. u ≡ s) e t ⊎ RefusesKeeps d rule limit n [] e s t)

-- ---- what is kept, said of the candidates

-- the rule rejects each of these candidates, given those kept
abbrev pub AreRefused : {T : Type 0} → Rule T → List T → List T → Type 0
AreRefused rule kept [] = Unit {0}
AreRefused rule kept (x ∷ xs) = (rule x kept ≡ false) × AreRefused rule kept xs

-- Of candidates in a row exactly these are kept, in order, after those kept before. Before each kept one fewer than the
-- limit are rejected, given those kept before them, and none comes after the last one.
abbrev pub AreKept : {T : Type 0} → Rule T → ℕ → List T → List T → List T → Type 0
AreKept rule limit kept [] candidates = candidates ≡ []
AreKept {T} rule limit kept (x ∷ xs) candidates =
    (refused : List T) × (rest : List T) × (candidates ≡ refused ++ (x ∷ rest)) × (length refused < limit)
    × AreRefused rule kept refused × (rule x kept ≡ true) × AreKept rule limit (kept ++ (x ∷ [])) xs rest

-- Candidates are drawn in a row from one state to another, and exactly these n of them are kept.
pub record KeepsFirst {S T : Type 0} (d : Sampling S T) (rule : Rule T) (limit n : ℕ) (s : S) (xs : List T)
    (t : S) : Type 0 where
  pub candidates : List T
  pub drawn : draws d (length candidates) s ≡ Some candidates
  pub after : after_draws d (length candidates) s ≡ t
  pub kept : AreKept rule limit [] xs candidates
  pub count : length xs ≡ n
