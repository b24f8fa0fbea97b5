use Rattle.std.proofs.lemmas.Result.{err_from_is_err_and}
use Rattle.p3_challenger_core.specs.CallLaws.{goes_on-next, goes_on-refused, goes_on-end}
use Rattle.p3_challenger_core.proofs.field_challenger.FieldChallenger.observe_algebra_slice.Goals as goal

-- an element more is observed
pub loop-i-preserved : goal.loop-i-preserved
loop-i-preserved g c =
    goes_on-next _ _ _ _ _ _ _ c.loop-i-test.true c.index-elements-i.is c.loop-i.invariant _
    c.in_ok-observe_algebra_element.ensures.ok

-- the elements before the refused one are observed
pub returns-in_err-observe_algebra_element-clause-err : goal.returns-in_err-observe_algebra_element-clause-err
returns-in_err-observe_algebra_element-clause-err g c =
    let p = err_from_is_err_and c.from_residual.result c.from_residual.ensures.1 in
    rw (p.1, p.2) (goes_on-refused _ _ _ _ _ _ _ c.loop-i-test.true c.index-elements-i.is c.loop-i.invariant _ _
    c.in_err-observe_algebra_element.ensures.err)

pub returns-clause-ok : goal.returns-clause-ok
returns-clause-ok g c = goes_on-end _ _ _ _ _ _ c.loop-i-test.false c.loop-i.invariant
