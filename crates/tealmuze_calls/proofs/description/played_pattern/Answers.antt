use Rattle.std.proofs.Common.{sym, subst}
use Rattle.std.proofs.lemmas.Grind.{not_there}
use Rattle.p3_challenger.specs.{Kind.TheVariants.Protocol, PatternGrammar.IsPattern}
use Rattle.tealmuze_calls.proofs.Dues.{due_weaker}
use Rattle.tealmuze_calls.proofs.description.played_pattern.Goals as goal

-- the steps are no pattern
pub returns-in-Err-clause-err : goal.returns-in-Err-clause-err
returns-in-Err-clause-err g c =
    due_weaker _ _ c.no_pattern.result (λ other pattern is. not_there pattern.is_pattern (λ follows.
    other (c.in-Err.ensures.only (subst (IsPattern Protocol) (sym is.0) follows)))) c.no_pattern.ensures
