use Rattle.std.proofs.{Common.{inl, refl}, lemmas.Result.{IfOk-weaker, IfErr-weaker, err_from_is_err_and}}
use Rattle.p3_challenger.specs.Scripts.{challenges_of}
use Rattle.tealmuze_calls.proofs.proving.answer.Goals as goal

-- the values are proved
pub returns-in_ok-told-in-Ok-clause-ok : goal.returns-in_ok-told-in-Ok-clause-ok
returns-in_ok-told-in-Ok-clause-ok g c =
    let proved = c.in-Ok.proved in
    let is = rw c.as_slice-steps.ensures.value at c.in-Ok.ensures.proved in
    rw c.in_ok-told-in-Ok.ensures (record {
      narg = proved.narg.items;
      witnesses = proved.witnesses.items;
      carried = proved.carried.items;
      drawn = challenges_of proved.challenges.items;
      end = g.S.Challenger.Sponge.state proved.challenger;
      proved = is.0;
      told_is = refl;
    })

-- they are refused
pub returns-in-Err-clause-ok : goal.returns-in-Err-clause-ok
returns-in-Err-clause-ok g c =
    let refused = rw c.as_slice-steps.ensures.value at c.in-Err.ensures.refused in
    IfOk-weaker c.refused.result _ _ (λ bytes tells. rw tells.told_is (record {
      position = c.in-Err.fault.position;
      error = c.in-Err.fault.error;
      refuses = refused.0;
      is_none = refused.1 tells.other;
      reason = tells.reason;
      short = tells.short;
      told_is = refl;
    })) c.refused.ensures.ok

-- no memory is left for what is told
pub returns-in_err-told-in-Ok-clause-err : goal.returns-in_err-told-in-Ok-clause-err
returns-in_err-told-in-Ok-clause-err g c =
    let p = err_from_is_err_and c.from_residual.result c.from_residual.ensures.1 in rw p.1 (inl p.2)

pub returns-in-Err-clause-err : goal.returns-in-Err-clause-err
returns-in-Err-clause-err g c = IfErr-weaker c.refused.result _ _ (λ e is. inl is) c.refused.ensures.err
