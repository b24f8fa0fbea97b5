use Rattle.std.proofs.{Common.{arith, refl, [], ◌∷◌}, lemmas.Result.err_from_is_err_and}
use Rattle.p3_challenger.specs.Bound.{bound_value}
use Rattle.p3_challenger.specs.OneAcceptedLaws.{draws-one, one-drawn}
use Rattle.uses.{specs.Protocol.may_divide, proofs.Accepting.one-given}
use Rattle.uses.proofs.protocol.draw_divisor.Goals as goal

pub index-requires : goal.index-requires
index-requires g c =
    let played = c.in_ok-drawn.ensures.played (λ x _. may_divide x) (λ x kept r post. post) in
    let one = one-drawn _ (λ x _. may_divide x) bound_value 100 _ c.in_ok-drawn.drawn.items played.gives in
    omega (arith, one.0)

pub returns-clause-drawn : goal.returns-clause-drawn
returns-clause-drawn g c =
    let played = c.in_ok-drawn.ensures.played (λ x _. may_divide x) (λ x kept r post. post) in
    let one = one-drawn _ (λ x _. may_divide x) bound_value 100 _ c.in_ok-drawn.drawn.items played.gives in
    rw (c.into_inner.ensures, c.index.ensures) (one.1 _)

pub returns-clause-accepted : goal.returns-clause-accepted
returns-clause-accepted g c divisor is_next is =
    let played = c.in_ok-drawn.ensures.played (λ x _. may_divide x) (λ x kept r post. post) in
    let one = one-drawn _ (λ x _. may_divide x) bound_value 100 _ c.in_ok-drawn.drawn.items played.gives in
    rw (c.into_inner.ensures, c.index.ensures) (one-given _ _ _ (one.1 _).0 is.0, played.playing)

pub returns-in_err-drawn-clause-accepted : goal.returns-in_err-drawn-clause-accepted
returns-in_err-drawn-clause-accepted g c divisor is_next is =
    let played = c.in_err-drawn.ensures.played (λ x _. may_divide x) (λ x kept r post. post) in
    let p = err_from_is_err_and c.from_residual.result c.from_residual.ensures.1 in
    rw (p.1, p.2)
    (c.only_memory_refuses_drawn_values.ensures.rejecting _ (λ x _. may_divide x) 100 1 _ _ _ _ (divisor ∷ []) _
    (draws-one _ (λ x _. may_divide x) 100 _ divisor _ _ refl is_next is.0) refl played)
