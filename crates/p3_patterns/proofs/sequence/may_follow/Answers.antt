use Rattle.std.proofs.Common.{map, sym, subst}
use Rattle.p3_fs_core.specs.{declared.step.Kind.Kind, Interactions.step_of}
use Rattle.p3_patterns.{specs.PatternGrammar.Allows, proofs.PatternGrammarLaws.{top-test, closer-test, allowed-test}}
use Rattle.p3_patterns.proofs.sequence.may_follow.Goals as goal

pub returns-in-None : goal.returns-in-None
returns-in-None c =
    top-test c.is_closer.result (map step_of c.args.before.now) (step_of c.args.next.now) c.in-None.ensures.none
    c.is_closer.ensures

pub returns-then-is_closer : goal.returns-then-is_closer
returns-then-is_closer c =
    let test = closer-test (map step_of c.args.before.now) _ (step_of c.args.next.now) _ (step_of c.in-Some.begin.now)
    c.requires c.in-Some.ensures.some (c.is_closer-in-Some.ensures.0 c.if-is_closer.true) in
    ((λ is. test.0 (c.closes.ensures.0 is)), λ more. c.closes.ensures.1 (test.1 more))

pub returns-else-is_closer : goal.returns-else-is_closer
returns-else-is_closer c =
    let next = step_of c.args.next.now in
    let test = allowed-test (map step_of c.args.before.now) _ next _ (step_of c.in-Some.begin.now) c.requires
    c.in-Some.ensures.some
    (λ ends. let is = c.is_closer-in-Some.ensures.1 ends in let is_not = c.if-is_closer.false in cc) in (
      λ is. test.0 (subst (λ (k : Kind). Allows k next) c.kind.ensures (c.allows.ensures.0 is)),
      λ more. c.allows.ensures.1 (subst (λ (k : Kind). Allows k next) (sym c.kind.ensures) (test.1 more)),
    )
