-- The containers that steps leave open, and the positions of their openers.
use Rattle.std.specs.Prelude.{◌≡◌, ℕ, List, [], ◌∷◌, ◌++◌, ◌-◌, length, take}
use Rattle.p3_fs_core.specs.declared.step.{Hierarchy.Hierarchy, Hierarchy.TheVariants.{Atomic, Begin, End}, Kind.Kind}
use Rattle.p3_fs_core.specs.{declared.step.Kind.TheVariants.Protocol, Steps.Step}
use Rattle.p3_patterns.specs.PatternGrammar.{Allows, IsPattern}

-- the kind of the innermost open container; at the top level any step may stand
abbrev pub kind_of : List Step → Kind
kind_of [] = Protocol
kind_of (opener ∷ below) = opener.kind

-- After the steps these openers are open, innermost first, at these positions, outermost first. The steps between
-- one opener and the next form a pattern of the first one's kind.
abbrev pub OpensAt : List Step → List ℕ → List Step → Type 0
OpensAt [] positions steps = (positions ≡ []) × IsPattern Protocol steps
OpensAt (opener ∷ below) positions steps = (before : List Step) × (inside : List Step) × (outer : List ℕ)
    × (steps ≡ before ++ (opener ∷ inside)) × (positions ≡ outer ++ (length before ∷ [])) × (opener.hierarchy ≡ Begin)
    × Allows (kind_of below) opener × IsPattern opener.kind inside × OpensAt below outer before

-- the positions are those of the openers that the steps leave open, outermost first
abbrev pub AreOpen : List Step → List ℕ → Type 0
AreOpen steps positions = (openers : List Step) × OpensAt openers positions steps

-- the positions of the open openers after a step at this position: an opener adds its own, and a closer removes
-- the last
abbrev pub opened_by : Hierarchy → ℕ → List ℕ → List ℕ
opened_by Atomic position places = places
opened_by Begin position places = places ++ (position ∷ [])
opened_by End position places = take (length places - 1) places
