-- Values are observed in two calls, and one is drawn in a third.
use Rattle.std.specs.Prelude.{◌≡◌, List, ◌⊎◌}
use Rattle.p3_challenger.specs.{Sponge.{IsFed, IsStepsOn}, Observation.LeavesFed, Sampling.Sampling}
use Rattle.p3_challenger.specs.{ChallengerError.ChallengerError, ChallengerError.TheVariants.{OutOfMemory, DrawLimit}}

-- What the calls leave if one returns this error. If memory is refused, a prefix of the symbols was fed, or all of
-- them were and some smallest draws were made. If the draw meets its limit, it was made.
abbrev pub RefusesThreeCalls : {S Symbol X : Type 0} →
    (S → List Symbol → S) → (S → S) → Sampling S X → List Symbol → ChallengerError → S → S → Type 0
RefusesThreeCalls {S} fed next d symbols OutOfMemory s t =
    LeavesFed fed s symbols t ⊎ ((here : S) × IsFed fed s symbols here × IsStepsOn next here t)
RefusesThreeCalls {S} fed next d symbols DrawLimit s t =
    (here : S) × IsFed fed s symbols here × d.meets_limit here × (t ≡ d.after here)
RefusesThreeCalls fed next d symbols _ s t = ⊥
