-- The rounds of a protocol.
use Rattle.std.specs.Prelude.{◌≡◌, ℕ, zero, suc, List, [], ◌∷◌, ◌++◌}
use Rattle.p3_fs_core.specs.Steps.{Step}

-- these are rounds one after another, where a relation holds of each round, the state before it and the state after
-- it
abbrev pub AreRounds : {V X : Type 0} → (V → X → V → Type 0) → V → List X → V → Type 0
AreRounds IsRound before [] after = after ≡ before
AreRounds {V} IsRound before (x ∷ xs) after = (here : V) × IsRound before x here × AreRounds IsRound here xs after

-- the steps of n rounds, each with these steps
abbrev pub steps_of_rounds : List Step → ℕ → List Step
steps_of_rounds steps zero = []
steps_of_rounds steps (suc n) = steps ++ steps_of_rounds steps n
