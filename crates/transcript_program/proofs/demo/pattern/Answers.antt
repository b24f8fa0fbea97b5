use Rattle.std.proofs.Common.{sym, subst}
use Rattle.p3_challenger.specs.{Kind.TheVariants.Protocol, PatternGrammar.IsPattern}
use Rattle.transcript_program.proofs.DemoPattern.{demo_is_pattern}
use Rattle.transcript_program.proofs.demo.pattern.Goals as goal

-- the steps are a pattern, so only memory can be refused
pub returns-clause-err : goal.returns-clause-err
returns-clause-err c =
    c.new.ensures.only (subst (IsPattern Protocol) (sym c.in_ok-steps.ensures) demo_is_pattern)
