-- How the steps of a group draw and feed.
use Rattle.std.specs.Prelude.{ℕ, List}
use Rattle.p3_challenger_core.specs.{Observation.{Observation, IsObservation}, Sampling.{Sampling, IsSampling}}

-- Each draw of bits or uniform bits, and each draw before a witness, is a number of smallest draws. Observing a witness
-- feeds its symbols.
pub record DrawsAndFeeds {S Symbol F : Type 0} (next : S → S) (fed : S → List Symbol → S)
    (bits uniform : ℕ → Sampling S ℕ) (before_witness : Sampling S (Unit {0}))
    (witness : Observation S Symbol F) : Type 0 where
  pub bits_drawn : (width : ℕ) → IsSampling next (bits width)
  pub uniform_drawn : (width : ℕ) → IsSampling next (uniform width)
  pub before_drawn : IsSampling next before_witness
  pub witness_observed : IsObservation fed witness
