use Rattle.std.{proofs.Common.{rules, sym, ◌∙◌}, specs.Cmp.Lexicographic.same_text}
use Rattle.transcript_program.proofs.ArgumentLemmas.{no_arguments}
use Rattle.transcript_program.proofs.arguments.parse_request.Goals as goal

pub returns-then-is_empty-clause-some : goal.returns-then-is_empty-clause-some
returns-then-is_empty-clause-some c =
    (same_text _ _ (sym c.if-eq-2.true ∙ c.eq-2.ensures), no_arguments c.args.args.now (search rules))
