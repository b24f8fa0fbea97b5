use Rattle.std.proofs.{Common.{inr, refl, rules, subst}, lemmas.Result.err_from_is_err_and}
use Rattle.p3_challenger.specs.Reading.{AreBytes}
use Rattle.p3_sumcheck.proofs.Reading.{pair-read, round-read}
use Rattle.p3_sumcheck.proofs.verifier.receive_round.Goals as goal

pub returns-clause-ok : goal.returns-clause-ok
returns-clause-ok g c =
    let are = subst AreBytes c.unread-unread.ensures.unread c.unread-unread.ensures.bytes in
    round-read _ _ _ _ c.in_ok-first.first c.in_ok-first.second _ _
    (pair-read _ (c.read_values_are_encoded.ensures.list _ 2) _ _ _ are c.in_ok-first.ensures)
    c.in_ok-challenge_scalar.ensures.0 c.in_ok-challenge_scalar.ensures.1 c.into_inner-challenge.ensures

pub returns-then-not-adds-clause-err : goal.returns-then-not-adds-clause-err
returns-then-not-adds-clause-err g c =
    let are = subst AreBytes c.unread-unread.ensures.unread c.unread-unread.ensures.bytes in (
      refl,
      (
        c.in_ok-first.first,
        c.in_ok-first.second,
        pair-read _ (c.read_values_are_encoded.ensures.list _ 2) _ _ _ are c.in_ok-first.ensures,
        search rules,
      ),
    )

pub returns-in_err-challenge_scalar-clause-err : goal.returns-in_err-challenge_scalar-clause-err
returns-in_err-challenge_scalar-clause-err g c =
    let are = subst AreBytes c.unread-unread.ensures.unread c.unread-unread.ensures.bytes in
    let p = err_from_is_err_and c.from_residual-in_err-challenge_scalar.result
    c.from_residual-in_err-challenge_scalar.ensures.1 in
    rw (p.1, p.2)
    (inr (
      c.in_ok-first.first,
      c.in_ok-first.second,
      _,
      pair-read _ (c.read_values_are_encoded.ensures.list _ 2) _ _ _ are c.in_ok-first.ensures,
      search rules,
      c.in_err-challenge_scalar.ensures.0,
      c.in_err-challenge_scalar.ensures.1,
    ))
