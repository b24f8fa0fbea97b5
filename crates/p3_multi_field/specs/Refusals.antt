-- The pairs of fields that make no multi-field challenger, and the errors that say so.
use Rattle.std.specs.Prelude.{◌≡◌, ℕ, ◌<◌, ◌≤◌, ◌^◌, ◌-◌, List, min}
use Rattle.p3_multi_field.specs.declared.error.MultiField32ChallengerError.{MultiField32ChallengerError}
use Rattle.p3_multi_field.specs.declared.error.MultiField32ChallengerError.TheVariants.{FieldOrderNotIncreasing}
use Rattle.p3_multi_field.specs.declared.error.MultiField32ChallengerError.TheVariants.{AbsorbLengthTagOverflow}

-- the order of the scalars is below that of the cells, and a byte can count the scalars that the rate packs
pub record MakeChallenger (order greater batch : ℕ) : Type 0 where
  pub increasing : order < greater
  pub counted : batch ≤ 255

-- the error says why the fields make no challenger, orders first; the batch length is capped at the greatest
-- `usize`
abbrev pub Refuses : ℕ → ℕ → ℕ → List ℕ → List ℕ → MultiField32ChallengerError → Type 0
Refuses order greater batch scalars_name cells_name (FieldOrderNotIncreasing input_field sponge_field) =
    (greater ≤ order) × (input_field.now ≡ scalars_name) × (sponge_field.now ≡ cells_name)
Refuses order greater batch scalars_name cells_name (AbsorbLengthTagOverflow batch_len max) =
    (order < greater) × (255 < batch) × (batch_len ≡ min batch (2 ^ 64 - 1)) × (max ≡ 255)

-- two errors have the same variant, names and numbers, wherever the names lie
abbrev pub SaySame : MultiField32ChallengerError → MultiField32ChallengerError → Type 0
SaySame (FieldOrderNotIncreasing input_field sponge_field) (FieldOrderNotIncreasing other_input other_sponge) =
    (input_field.now ≡ other_input.now) × (sponge_field.now ≡ other_sponge.now)
SaySame (AbsorbLengthTagOverflow batch_len max) (AbsorbLengthTagOverflow other_len other_max) =
    (batch_len ≡ other_len) × (max ≡ other_max)
SaySame _ _ = ⊥
