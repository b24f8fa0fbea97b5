-- Facts that hold of every step in a program.
use Rattle.std.specs.Prelude.{◌≡◌, ℕ, ◌<◌, ◌^◌, List, [], ◌∷◌, length}
use Rattle.p3_challenger_core.specs.Reading.{AreBytes}
use Rattle.p3_fs_core.specs.declared.step.{Length.Length, Length.TheVariants.{Fixed, Bounded}, TypeTag.TypeTag}
use Rattle.p3_fs_core.specs.{declared.step.TypeTag.TheVariants.{Algebra, BinaryTower, BinaryPolynomial}, Steps.Step}
use Rattle.p3_fs_core.specs.declared.step.TypeTag.TheVariants.{Bits, UniformBits}

-- the number of a length fits its type
abbrev pub FitsLength : Length → Type 0
FitsLength (Fixed count) = count < 2 ^ 64
FitsLength (Bounded most) = most < 2 ^ 64
FitsLength _ = Unit {0}

-- a degree fits its type, and a basis has 32 bytes
abbrev pub IsEnd : ℕ → List ℕ → Type 0
IsEnd degree basis = (degree < 2 ^ 64) × (length basis ≡ 32) × AreBytes basis

-- the numbers of a tag fit their types, and its basis has 32 bytes
abbrev pub FitsTag : TypeTag → Type 0
FitsTag (Algebra modulus degree basis) = (modulus < 2 ^ 64) × IsEnd degree basis
FitsTag (BinaryTower bits degree basis) = (bits < 2 ^ 64) × IsEnd degree basis
FitsTag (BinaryPolynomial bits modulus degree basis) = (bits < 2 ^ 64) × (modulus < 2 ^ 128) × IsEnd degree basis
FitsTag (Bits width) = width < 2 ^ 64
FitsTag (UniformBits width) = width < 2 ^ 64
FitsTag _ = Unit {0}

-- the numbers of a step fit their types
pub record FitsTypes (s : Step) : Type 0 where
  pub label : length s.label < 2 ^ 64
  pub carried : FitsLength s.length
  pub tag : FitsTag s.type_tag

-- a program can hold the step: its numbers fit their types, and its texts are bytes
pub record IsProgramStep (s : Step) : Type 0 where
  pub fits : FitsTypes s
  pub label : AreBytes s.label
  pub type_name : AreBytes s.type_name

-- a program can hold each of the steps
abbrev pub AreProgramSteps : List Step → Type 0
AreProgramSteps [] = Unit {0}
AreProgramSteps (s ∷ steps) = IsProgramStep s × AreProgramSteps steps
