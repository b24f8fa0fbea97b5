-- Facts that hold of every step in a program, each with at most one proof. So a step is determined
-- by its parts.
use Rattle.std.specs.{Prelude.{ℕ, List, [], ◌∷◌, length}, Coded.{×_prop, Unit-prop, le_prop, Coded-set, coded_ℕ}}
use Rattle.p3_challenger_core.specs.Reading.{AreBytes}
use Rattle.p3_fs_core.specs.declared.step.{Length.Length, Length.TheVariants.{Fixed, Bounded}, TypeTag.TypeTag}
use Rattle.p3_fs_core.specs.{declared.step.TypeTag.TheVariants.{Algebra, BinaryTower, BinaryPolynomial}, Steps.Step}
use Rattle.p3_fs_core.specs.declared.step.TypeTag.TheVariants.{Bits, UniformBits}
use Rattle.p3_fs_core.specs.StepFits.{FitsLength, IsEnd, FitsTag, FitsTypes, IsProgramStep, AreProgramSteps}

pub AreBytes-prop : (bytes : List ℕ) → IsProp (AreBytes bytes)
AreBytes-prop bytes x y = λ k i. le_prop (x i) (y i) k

FitsLength-prop : (carried : Length) → IsProp (FitsLength carried)
FitsLength-prop (Fixed count) = le_prop
FitsLength-prop (Bounded most) = le_prop
FitsLength-prop _ = Unit-prop

IsEnd-prop : (degree : ℕ) (basis : List ℕ) → IsProp (IsEnd degree basis)
IsEnd-prop degree basis x y = λ k. (
  le_prop x.0 y.0 k,
  Coded-set coded_ℕ (length basis) 32 x.1 y.1 k,
  AreBytes-prop basis x.2 y.2 k,
)

FitsTag-prop : (tag : TypeTag) → IsProp (FitsTag tag)
FitsTag-prop (Algebra modulus degree basis) = ×_prop le_prop (IsEnd-prop degree basis)
FitsTag-prop (BinaryTower bits degree basis) = ×_prop le_prop (IsEnd-prop degree basis)
FitsTag-prop (BinaryPolynomial bits modulus degree basis) =
    λ x y k. (le_prop x.0 y.0 k, le_prop x.1 y.1 k, IsEnd-prop degree basis x.2 y.2 k)
FitsTag-prop (Bits width) = le_prop
FitsTag-prop (UniformBits width) = le_prop
FitsTag-prop _ = Unit-prop

FitsTypes-prop : (s : Step) → IsProp (FitsTypes s)
FitsTypes-prop s x y = λ k. record {
  label = le_prop x.label y.label k;
  carried = FitsLength-prop s.length x.carried y.carried k;
  tag = FitsTag-prop s.type_tag x.tag y.tag k;
}

pub IsProgramStep-prop : (s : Step) → IsProp (IsProgramStep s)
IsProgramStep-prop s x y = λ k. record {
  fits = FitsTypes-prop s x.fits y.fits k;
  label = AreBytes-prop s.label x.label y.label k;
  type_name = AreBytes-prop s.type_name x.type_name y.type_name k;
}

pub AreProgramSteps-prop : (steps : List Step) → IsProp (AreProgramSteps steps)
AreProgramSteps-prop [] = Unit-prop
AreProgramSteps-prop (s ∷ steps) = ×_prop (IsProgramStep-prop s) (AreProgramSteps-prop steps)
