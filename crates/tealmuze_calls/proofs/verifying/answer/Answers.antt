use Rattle.std.proofs.{Common.{map, inl, refl, ap, ◌∙◌}, lemmas.Result.{IfOk-weaker, err_from_is_err_and}}
use Rattle.p3_challenger.specs.Scripts.{values_received, challenges_of}
use Rattle.tealmuze_calls.proofs.verifying.answer.Goals as goal

-- the proof is accepted
pub returns-in-Ok-clause-ok : goal.returns-in-Ok-clause-ok
returns-in-Ok-clause-ok g c =
    let verified = c.in-Ok.verified in
    let accepted = rw c.as_slice-steps.ensures.value at c.in-Ok.ensures.accepted in
    rw c.in_ok-accepted-in-Ok.ensures (record {
      witnesses = c.as_slice-witnesses.result.now;
      carried_are = ap (λ xs. map g.S.Field.PrimeCharacteristicRing.residues.number xs) c.as_slice-witnesses.ensures.value
          ∙ c.in_ok-witnesses.ensures.numbers;
      received = values_received verified.received.items;
      drawn = challenges_of verified.challenges.items;
      end = g.S.Challenger.Sponge.state verified.challenger;
      accepts = accepted;
      told_is = refl;
    })

-- it is refused
pub returns-clause-ok : goal.returns-clause-ok
returns-clause-ok g c =
    let refused = rw c.as_slice-steps.ensures.value at c.in-Err.ensures.refused in
    IfOk-weaker c.refused.result _ _ (λ bytes tells. rw tells.told_is (record {
      witnesses = c.as_slice-witnesses.result.now;
      carried_are = ap (λ xs. map g.S.Field.PrimeCharacteristicRing.residues.number xs) c.as_slice-witnesses.ensures.value
          ∙ c.in_ok-witnesses.ensures.numbers;
      position = c.in-Err.fault.position;
      error = c.in-Err.fault.error;
      refuses = refused.0;
      is_none = refused.1 tells.other;
      reason = tells.reason;
      short = tells.short;
      told_is = refl;
    })) c.refused.ensures.ok

-- the numbers cannot be carried, or no memory is left
pub returns-in_err-witnesses-clause-err : goal.returns-in_err-witnesses-clause-err
returns-in_err-witnesses-clause-err g c =
    let p = err_from_is_err_and c.from_residual.result c.from_residual.ensures.1 in
    let told = rw c.as_slice-steps.ensures.value at c.in_err-witnesses.ensures.err in
    rw (p.1, p.2) told

pub returns-in_err-accepted-in-Ok-clause-err : goal.returns-in_err-accepted-in-Ok-clause-err
returns-in_err-accepted-in-Ok-clause-err g c =
    let p = err_from_is_err_and c.from_residual-in_err-accepted-in-Ok.result
    c.from_residual-in_err-accepted-in-Ok.ensures.1 in
    rw p.1 (inl p.2)
