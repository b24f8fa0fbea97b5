use Rattle.std.proofs.{Common.{refl, map}, lemmas.List.length-map}
use Rattle.p3_fs_core.specs.Interactions.{step_of}
use Rattle.p3_patterns.proofs.{PatternGrammarLaws.{stuck-ends, pattern-none_open}, FirstFaults.stops}
use Rattle.p3_patterns.proofs.OpenPositions.{open-viable}
use Rattle.p3_patterns.proofs.sequence.fault_of_next.Goals as goal

pub returns-in_default : goal.returns-in_default
returns-in_default c = λ rest.
    let before = map step_of c.args.before.now in
    let next = step_of c.args.next.now in
    let viable = open-viable before c.args.containers.now.openers.items c.requires.open in (
      stops before rest next _ (length-map c.args.before.now step_of) viable c.requires.stuck,
      stuck-ends before next next.hierarchy refl c.in_default.ensures.none c.requires.stuck,
      pattern-none_open before c.in_default.ensures.none,
    )

pub returns-then-is_closer : goal.returns-then-is_closer
returns-then-is_closer c = λ rest.
    let before = map step_of c.args.before.now in
    let viable = open-viable before c.args.containers.now.openers.items c.requires.open in (
      stops before rest (step_of c.args.next.now) _ (length-map c.args.before.now step_of) viable c.requires.stuck,
      c.is_closer.ensures.0 c.if-is_closer.true,
      c.in-Some.ensures.some,
    )

pub returns-else-is_closer : goal.returns-else-is_closer
returns-else-is_closer c = λ rest.
    let before = map step_of c.args.before.now in
    let viable = open-viable before c.args.containers.now.openers.items c.requires.open in (
      stops before rest (step_of c.args.next.now) _ (length-map c.args.before.now step_of) viable c.requires.stuck,
      (λ ends. let is = c.is_closer.ensures.1 ends in let is_not = c.if-is_closer.false in cc),
      c.in-Some.ensures.some,
    )
