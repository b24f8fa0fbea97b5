-- The rules of draws, as a file names them.
use Rattle.std.specs.Prelude.{Bool, List, ℕ, nat_le}
use Rattle.p3_challenger.specs.Accepting.{is_new}
use Rattle.script_lines.specs.declared.rule.{Rule.Rule, Rule.TheVariants.{Distinct, AtLeast}}

-- whether a rule takes a candidate of this number, beside those that were kept
abbrev pub takes : {T : Type 0} → (T → T → Bool) → (T → ℕ) → Rule → T → List T → Bool
takes eq number Distinct candidate kept = is_new eq candidate kept
takes eq number (AtLeast least) candidate kept = nat_le least (number candidate)
