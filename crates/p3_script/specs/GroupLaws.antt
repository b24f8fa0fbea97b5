-- A group without such steps owes nothing for them: its draws and observations in their place change nothing.
use Rattle.std.proofs.Common.{◌≡◌, false, IsTrue, List, [], ◌++◌, Some, sym}
use Rattle.p3_challenger_core.specs.{Observation.{IsObservation, unrefused_observe}, Sampling.{IsSampling, unrefused_draw}}
use Rattle.p3_challenger_core.specs.{ObservationLaws.unrefused_observe-is_observation}
use Rattle.p3_challenger_core.specs.{SamplingLaws.{unrefused_draw-is_sampling, no_steps}}

pub not_there : {A : Type 0} → IsTrue false → A
not_there h = absurd (cc)

pub nothing-drawn : {S T : Type 0} (next : S → S) (x : T) → IsSampling next (unrefused_draw (λ _. Some x) (λ s. s))
nothing-drawn next x = unrefused_draw-is_sampling next (λ _. Some x) (λ s. s) (no_steps next)

pub nothing-observed : {S Symbol T : Type 0} (fed : S → List Symbol → S) → ((s : S) → fed s [] ≡ s) →
    ((s : S) (a b : List Symbol) → fed (fed s a) b ≡ fed s (a ++ b)) →
    IsObservation {T = T} fed (unrefused_observe (λ _. []) (λ s _. s))
nothing-observed fed fed_nothing fed_more =
    unrefused_observe-is_observation fed fed_nothing fed_more (λ _. []) (λ s _. s) (λ s x. sym (fed_nothing s))
