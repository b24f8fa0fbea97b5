use Rattle.std.{proofs.Common.{map, ap, ◌∙◌}, specs.List.each_same}
use Rattle.p3_fs_core.specs.Interactions.{step_of}
use Rattle.p3_patterns.specs.PatternStepLaws.{PatternSteps-same}
use Rattle.p3_patterns.proofs.sequence.InteractionPattern.clone.Goals as goal

pub returns-clause-ok : goal.returns-clause-ok
returns-clause-ok c =
    let cloned = c.in_ok-clone.ensures.cases in
    PatternSteps-same _ _
    (ap (map step_of) (each_same c.self.inside.interactions.items c.in_ok-clone.field-0.items cloned.0)
    ∙ ap (λ pattern. pattern.steps) c.self.view_is)
