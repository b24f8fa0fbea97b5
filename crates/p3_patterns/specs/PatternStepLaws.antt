-- Laws of patterns: a pattern is determined by its steps.
use Rattle.std.{specs.{Prelude.{◌≡◌, ◌<◌, ◌^◌, List, length}, Coded.{Coded, coded_list, le_prop}}, proofs.Common.subst}
use Rattle.p3_fs_core.specs.{declared.step.Kind.TheVariants.Protocol, StepCodeLaws.step_code, StepFits.AreProgramSteps}
use Rattle.p3_fs_core.specs.{StepFitLaws.AreProgramSteps-prop, Steps.Step}
use Rattle.p3_patterns.specs.{PatternGrammar.IsPattern, PatternSteps.PatternSteps}
use base.Stored.{coded_via}

-- patterns with the same steps are equal
pub PatternSteps-same : (x y : PatternSteps) → x.steps ≡ y.steps → x ≡ y
PatternSteps-same x y e =
    let IsSame : List Step → Type 0 = λ (steps : List Step).
    (is_pattern : ∥ IsPattern Protocol steps ∥₁) (few : length steps < 2 ^ 64) (fit : AreProgramSteps steps)
    → x ≡ record { steps = steps; is_pattern = is_pattern; few = few; fit = fit } in
    let own : IsSame x.steps = λ is_pattern few fit i. record {
      steps = x.steps;
      is_pattern = squash₁ x.is_pattern is_pattern i;
      few = le_prop x.few few i;
      fit = AreProgramSteps-prop x.steps x.fit fit i;
    } in
    subst IsSame e own y.is_pattern y.few y.fit

-- how the logic stores a pattern: as its list of steps
abbrev pub pattern_steps_code : Coded PatternSteps
pattern_steps_code = coded_via (coded_list step_code) (λ pattern. pattern.steps) PatternSteps-same
