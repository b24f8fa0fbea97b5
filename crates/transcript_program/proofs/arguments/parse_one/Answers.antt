use Rattle.transcript_program.proofs.ArgumentLemmas.{one_scalar-none}
use Rattle.transcript_program.proofs.arguments.parse_one.Goals as goal

pub returns-in-len1-clause-none : goal.returns-in-len1-clause-none
returns-in-len1-clause-none c =
    one_scalar-none c.args.args.now c.in-len1.len_at_least c.in-len1.len_below _ c.parse_scalar.ensures.none
