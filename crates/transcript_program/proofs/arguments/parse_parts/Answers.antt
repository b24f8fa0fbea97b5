use Rattle.transcript_program.proofs.ArgumentLemmas.{none_there}
use Rattle.transcript_program.proofs.arguments.parse_parts.Goals as goal

pub returns-in_err-inputs-clause-none : goal.returns-in_err-inputs-clause-none
returns-in_err-inputs-clause-none c =
    none_there c.from_residual.result c.from_residual.ensures (λ ask asks.
    c.in_err-inputs.ensures.none ask.inputs.items asks.inputs_are)
