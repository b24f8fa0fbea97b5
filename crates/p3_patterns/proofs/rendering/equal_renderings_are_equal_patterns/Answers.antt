use Rattle.p3_patterns.specs.RenderingLaws.{AllFitTypes-program, rendering_injective}
use Rattle.p3_patterns.proofs.rendering.equal_renderings_are_equal_patterns.Goals as goal

pub returns-clause-patterns : goal.returns-clause-patterns
returns-clause-patterns c =
    λ x y. rendering_injective x.steps y.steps (AllFitTypes-program x.steps x.fit) (AllFitTypes-program y.steps y.fit)
    x.few y.few
