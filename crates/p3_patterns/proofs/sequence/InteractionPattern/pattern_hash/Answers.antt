use Rattle.std.specs.Prelude.{◌≡◌, ◌↔◌}
use Rattle.p3_patterns.specs.{PatternSteps.PatternSteps, Rendering.{SameButTypeNames, hashed_text}}
use Rattle.p3_patterns.specs.RenderingLaws.{AllFitTypes-program, rendering_injective}
use Rattle.p3_patterns.proofs.sequence.InteractionPattern.pattern_hash.Goals as goal

hash-injective : (x y : PatternSteps) → hashed_text x.steps ≡ hashed_text y.steps ↔ SameButTypeNames x.steps y.steps
hash-injective x y =
    rendering_injective x.steps y.steps (AllFitTypes-program x.steps x.fit) (AllFitTypes-program y.steps y.fit) x.few y.few

pub returns-in_err-text-clause-fits : goal.returns-in_err-text-clause-fits
returns-in_err-text-clause-fits g c =
    let pattern = c.args.self.now in
    (AllFitTypes-program pattern.steps pattern.fit, pattern.few)

pub returns-clause-fits : goal.returns-clause-fits
returns-clause-fits g c =
    let pattern = c.args.self.now in
    (AllFitTypes-program pattern.steps pattern.fit, pattern.few)

pub returns-in_err-text-clause-injective : goal.returns-in_err-text-clause-injective
returns-in_err-text-clause-injective g c = λ other. hash-injective c.args.self.now other

pub returns-clause-injective : goal.returns-clause-injective
returns-clause-injective g c = λ other. hash-injective c.args.self.now other
