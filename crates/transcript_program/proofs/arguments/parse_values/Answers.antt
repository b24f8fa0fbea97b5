use Rattle.transcript_program.proofs.ArgumentLemmas.{scalar_texts-none, none_there}
use Rattle.transcript_program.proofs.arguments.parse_values.Goals as goal

pub returns-in_err-parse_scalar-clause-none : goal.returns-in_err-parse_scalar-clause-none
returns-in_err-parse_scalar-clause-none c =
    none_there c.from_residual.result c.from_residual.ensures (λ values few.
    scalar_texts-none c.args.texts.now c.loop-text.text-index values c.loop-text-test.true
    c.in_err-parse_scalar.ensures.none)
