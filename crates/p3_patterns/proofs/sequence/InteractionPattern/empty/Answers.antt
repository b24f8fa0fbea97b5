use Rattle.std.proofs.Common.{lit<}
use Rattle.p3_fs_core.specs.declared.step.Kind.TheVariants.{Protocol}
use Rattle.p3_patterns.specs.PatternGrammar.{nothing}
use Rattle.p3_patterns.proofs.sequence.InteractionPattern.empty.Goals as goal

pub invariant_of-result : goal.invariant_of-result
invariant_of-result c = rw c.new.ensures.items (∣ nothing Protocol ∣₁, (lit< tt, tt))
