-- A value is sent, and another is drawn after it.
use Rattle.std.specs.Prelude.{◌≡◌, List, Some, ◌⊎◌}
use Rattle.p3_challenger.specs.{Sponge.{IsFed, IsStepsOn}, Observation.{LeavesFed, Observation}, Sampling.Sampling}

-- The challenger left by a refused step. A prefix of the value's symbols was fed, or all of them were and some
-- smallest draws were made.
abbrev pub LeavesRound : {S Symbol : Type 0} → (S → List Symbol → S) → (S → S) → List Symbol → S → S → Type 0
LeavesRound {S} fed next symbols s t =
    LeavesFed fed s symbols t ⊎ ((here : S) × IsFed fed s symbols here × IsStepsOn next here t)

-- the value is drawn from a state to which exactly these symbols were fed
abbrev pub DrawnAfter : {S Symbol X : Type 0} → (S → List Symbol → S) → Sampling S X → List Symbol → X → S → Type 0
DrawnAfter {S} fed d symbols x s = (here : S) × IsFed fed s symbols here × (d.sampled here ≡ Some x)

-- a value is observed, another is drawn right after it, and the draw leaves this state
abbrev pub ObservesAndDraws : {S Symbol T X : Type 0} → Observation S Symbol T → Sampling S X → T → X → S → S → Type 0
ObservesAndDraws o d value x s t =
    let here = o.observed s value in (d.sampled here ≡ Some x) × (t ≡ d.after here)
