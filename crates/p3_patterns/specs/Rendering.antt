-- The text of a list of steps.
use Rattle.std.specs.Prelude.{◌≡◌, ℕ, ◌+◌, ◌-◌, ◌*◌, Bool, List, [], ◌∷◌, ◌++◌, length, map, replicate, codes, if◌then◌else◌}
use Rattle.std.specs.Fmt.{decimal}
use Rattle.p3_fs_core.specs.declared.step.{Hierarchy.Hierarchy, Hierarchy.TheVariants.{Atomic, Begin, End}}
use Rattle.p3_fs_core.specs.{Steps.{Step, plain_text, alternate_text}, StepFits.FitsTypes}

-- the number of open containers after a step
abbrev pub depth_after : Hierarchy → ℕ → ℕ
depth_after Atomic depth = depth
depth_after Begin depth = depth + 1
depth_after End depth = depth - 1

-- the indentation of a step; a closer has that of its opener
abbrev pub indentation : Hierarchy → ℕ → ℕ
indentation End depth = depth - 1
indentation _ depth = depth

-- a number padded with leading zeros to a number of digits
abbrev pub padded : ℕ → ℕ → List ℕ
padded digits n = replicate (digits - length (decimal n)) 48 ++ decimal n

-- the text of a step, alternate or plain
abbrev pub text_of : Bool → Step → List ℕ
text_of alternate s = if alternate then alternate_text s else plain_text s

-- The line of a step: its position, a space, two spaces for each level of indentation, and its text.
abbrev pub line : (Step → List ℕ) → ℕ → ℕ → ℕ → Step → List ℕ
line text digits position indented s =
    padded digits position ++ (codes " " ++ (replicate (2 * indented) 32 ++ (text s ++ codes "\n")))

-- the lines of the steps from a position on, given the number of open containers
abbrev pub lines : (Step → List ℕ) → ℕ → ℕ → ℕ → List Step → List ℕ
lines text digits position depth [] = []
lines text digits position depth (s ∷ rest) = line text digits position (indentation s.hierarchy depth) s
    ++ lines text digits (position + 1) (depth_after s.hierarchy depth) rest

-- The text of the steps, each printed in the same form. Each position has as many digits as the last one.
abbrev pub rendering : (Step → List ℕ) → List Step → List ℕ
rendering text steps = codes "Plonky3 Fiat-Shamir Transcript ("
    ++ (decimal (length steps) ++ (codes " interactions)\n" ++ lines text (length (decimal (length steps - 1))) 0 0 steps))

-- the text of the steps that is hashed
abbrev pub hashed_text : List Step → List ℕ
hashed_text steps = rendering alternate_text steps

-- ---- what the text tells apart

-- a step without the name of its type
abbrev pub without_type_name : Step → Step
without_type_name s = record s { type_name = [] }

-- the steps are the same except for the names of their types
abbrev pub SameButTypeNames : List Step → List Step → Type 0
SameButTypeNames xs ys = map without_type_name xs ≡ map without_type_name ys

-- the numbers of each step fit their types, as in every program
abbrev pub AllFitTypes : List Step → Type 0
AllFitTypes [] = Unit {0}
AllFitTypes (s ∷ steps) = FitsTypes s × AllFitTypes steps
