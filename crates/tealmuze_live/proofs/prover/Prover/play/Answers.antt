use Rattle.std.proofs.Common.{inl, inr, ap, sym, subst, ◌∙◌}
use Rattle.p3_challenger.specs.ProverAnswers.{value_given}
use Rattle.tealmuze_calls.specs.{Descriptions.IsRead, Forms.value_bytes}
use Rattle.tealmuze_live.proofs.Left.{given_is}
use Rattle.tealmuze_live.proofs.prover.Prover.play.Goals as goal

-- the step is played
pub returns-in-Played-clause-ok : goal.returns-in-Played-clause-ok
returns-in-Played-clause-ok g c =
    let number = g.S.Field.PrimeCharacteristicRing.residues.number in
    let coefficients = g.S.Extension.BasedVectorSpace.coefficients in
    record {
      step = c.in_ok-step.step;
      given = value_given c.as_ref-given.result;
      asked = subst (λ left. IsRead number coefficients g.S.Called.opaque_numbers g.S.Called.are_opaque c.args.request.left.now
          left c.in_ok-step.step)
          (c.in_ok-sent.ensures ∙ ap (value_bytes number coefficients) (sym (given_is c.as_ref-given.result _ c.as_ref-given.ensures.value)))
          c.in_ok-step.ensures;
      told_is = inl (rw c.in-Played.is at c.in_ok-told.ensures.ok);
    }

-- it is refused
pub returns-clause-ok : goal.returns-clause-ok
returns-clause-ok g c =
    let number = g.S.Field.PrimeCharacteristicRing.residues.number in
    let coefficients = g.S.Extension.BasedVectorSpace.coefficients in
    record {
      step = c.in_ok-step.step;
      given = value_given c.as_ref-given.result;
      asked = subst (λ left. IsRead number coefficients g.S.Called.opaque_numbers g.S.Called.are_opaque c.args.request.left.now
          left c.in_ok-step.step)
          (c.in_ok-sent.ensures ∙ ap (value_bytes number coefficients) (sym (given_is c.as_ref-given.result _ c.as_ref-given.ensures.value)))
          c.in_ok-step.ensures;
      told_is = inr (rw c.in-Refused.is at c.in_ok-told.ensures.ok);
    }
