use Rattle.tealmuze_calls.proofs.{BySuites.described-proving, Dues.due_passed}
use Rattle.tealmuze_calls.proofs.proving.prove.Goals as goal

pub prove_prepared-requires : goal.prove_prepared-requires
prove_prepared-requires c = (c.args.description.now, c.in_ok-prepared.ensures.ok)

pub returns-clause-ok : goal.returns-clause-ok
returns-clause-ok c = c.prove_prepared.ensures.ok _ c.in_ok-prepared.ensures.ok

-- nothing is described
pub returns-in_err-prepared-clause-err : goal.returns-in_err-prepared-clause-err
returns-in_err-prepared-clause-err c =
    due_passed c.from_residual.result _ _ _
    (λ none asked. none (described-proving c.args.description.now c.args.values.now asked))
    c.from_residual.ensures.1 c.in_err-prepared.ensures.err
