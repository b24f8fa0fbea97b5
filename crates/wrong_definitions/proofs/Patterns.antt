-- Patterns of one step and of two, none of which is an opener or a closer.
use Rattle.std.proofs.Common.{◌≡◌, [], ◌∷◌, refl, inl, lit<}
use Rattle.p3_fs_core.specs.declared.step.{Hierarchy.TheVariants.Atomic, Kind.TheVariants.Protocol}
use Rattle.p3_fs_core.specs.{Steps.Step, StepFits.IsProgramStep}
use Rattle.p3_patterns.specs.{PatternGrammar.{nothing, leaf}, PatternSteps.PatternSteps}

abbrev pub pattern_of_one : (s : Step) → s.hierarchy ≡ Atomic → IsProgramStep s → PatternSteps
pattern_of_one s atomic fits = record {
  steps = s ∷ [];
  is_pattern = ∣ leaf Protocol s [] atomic (inl refl) (nothing Protocol) ∣₁;
  few = lit< tt;
  fit = (fits, tt);
}

abbrev pub pattern_of_two : (s t : Step) → s.hierarchy ≡ Atomic → t.hierarchy ≡ Atomic → IsProgramStep s →
    IsProgramStep t → PatternSteps
pattern_of_two s t s_atomic t_atomic s_fits t_fits = record {
  steps = s ∷ t ∷ [];
  is_pattern = ∣ leaf Protocol s (t ∷ []) s_atomic (inl refl) (leaf Protocol t [] t_atomic (inl refl) (nothing Protocol)) ∣₁;
  few = lit< tt;
  fit = (s_fits, (t_fits, tt));
}
