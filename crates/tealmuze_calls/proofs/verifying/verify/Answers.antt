use Rattle.tealmuze_calls.proofs.{BySuites.described-verdict, Dues.due_passed}
use Rattle.tealmuze_calls.proofs.verifying.verify.Goals as goal

pub verify_prepared-requires : goal.verify_prepared-requires
verify_prepared-requires c = (c.args.description.now, c.in_ok-prepared.ensures.ok)

pub returns-clause-ok : goal.returns-clause-ok
returns-clause-ok c = c.verify_prepared.ensures.ok _ c.in_ok-prepared.ensures.ok

-- nothing is described
pub returns-in_err-prepared-clause-err : goal.returns-in_err-prepared-clause-err
returns-in_err-prepared-clause-err c =
    due_passed c.from_residual.result _ _ _
    (λ none asked. none (described-verdict c.args.description.now c.args.carried.now asked))
    c.from_residual.ensures.1 c.in_err-prepared.ensures.err
