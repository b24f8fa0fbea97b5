-- A walk over steps, up to the first one that may not stand at its place.
use Rattle.std.specs.Prelude.{ℕ, ◌<◌, ◌≤◌, List, length, map, take, slice_index_or}
use Rattle.p3_fs_core.specs.{declared.interaction.Interaction.Interaction, Interactions.step_of}
use Rattle.p3_patterns.specs.{PatternGrammar.MayFollow, OpenContainers.AreOpen}

-- some pattern begins with the walked steps, which leave these positions open; with the next step, if there is one,
-- none does
pub record WalksTo (steps : List Interaction) (walked : ℕ) (positions : List ℕ) : Type 0 where
  pub within : walked ≤ length steps
  pub opens : AreOpen (map step_of (take walked steps)) positions
  pub stuck : (next : Interaction) → walked < length steps →
      MayFollow (step_of (slice_index_or steps walked next)) (map step_of (take walked steps)) → ⊥
