-- Places of values as Boolean tests, and steps of patterns that carry elements of a suite's algebras.
use Rattle.std.specs.Prelude.{Bool, true, false, ◌≡◌}
use Rattle.p3_runs.specs.{Plays.{Place, Sent, Carried}, Rules.Rules}
use Rattle.p3_fs_core.specs.{Steps.{NamedAlgebra, tag_of}, Interactions.step_of}
use Rattle.p3_fs_core.specs.declared.interaction.Interaction.{Interaction}

-- a prover is handed the value
abbrev pub is_handed_at : Place → Bool
is_handed_at Sent = true
is_handed_at _ = false

-- the verifier's caller carries the value
abbrev pub is_carried_at : Place → Bool
is_carried_at Carried = true
is_carried_at _ = false

-- the step carries elements of the algebra
pub record Carries (algebra : NamedAlgebra) (i : Interaction) : Type 0 where
  pub tag : (step_of i).type_tag ≡ tag_of algebra
  pub name : (step_of i).type_name ≡ algebra.name

-- the first step carries scalars, and the second elements of the extension
pub record CarryRules {S Symbol I F EF O Ac : Type 0} (rules : Rules S Symbol I F EF O Ac)
    (scalars extensions : Interaction) : Type 0 where
  pub scalar : Carries rules.scalar.algebra scalars
  pub extension : Carries rules.extension.algebra extensions
