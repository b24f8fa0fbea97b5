use Rattle.std.proofs.Common.{◌-◌, Some, sym, ap, rules}
use Rattle.p3_duplex.specs.DuplexUniform.{draws_allowed}
use Rattle.p3_duplex.proofs.Uniform.{below-true, below-false, one-gives, one-reached, rest-drawn}
use Rattle.p3_duplex.proofs.duplex_challenger.DuplexChallenger.first_below.Goals as goal

pub returns-then-as_canonical_u64-bound : goal.returns-then-as_canonical_u64-bound
returns-then-as_canonical_u64-bound g c =
    let given = ap Some (sym c.draw-first.ensures.value) in
    let accepted = below-true _ _ _ c.as_canonical_u64.ensures c.if-as_canonical_u64-bound.true in (
      one-gives _ _ draws_allowed c.args.self.now (search (rules, c.self)) _ _ given c.draw-first.ensures.after accepted,
      one-reached _ _ draws_allowed c.args.self.now (search (rules, c.self)) _ _ given c.draw-first.ensures.after accepted,
    )

pub returns-else-as_canonical_u64-bound : goal.returns-else-as_canonical_u64-bound
returns-else-as_canonical_u64-bound g c =
    rest-drawn _ _ draws_allowed c.args.self.now (search (rules, c.self)) _ _ (ap Some (sym c.draw-first.ensures.value))
    c.draw-first.ensures.after (c.self.inside.draw_limit - 1) (search (rules, c.self.view_is))
    (below-false _ _ _ c.as_canonical_u64.ensures c.if-as_canonical_u64-bound.false) _ _ c.first_below_of.ensures
