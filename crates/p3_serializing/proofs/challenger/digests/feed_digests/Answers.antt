use Rattle.std.proofs.Common.{List, subst, rules}
use Rattle.p3_challenger_core.specs.{CallLaws.goes_on-refused, Observation.RefusesObserve}
use Rattle.p3_serializing.proofs.challenger.digests.feed_digests.Goals as goal

-- the digests before the refused one are observed
pub returns-in_err-feed_parts : goal.returns-in_err-feed_parts
returns-in_err-feed_parts g c =
    let of_digest = g.Part.DigestPart.parts_observed in
    let state = g.C.Sponge.state in
    let e = c.in_err-feed_parts.field-0.0 in
    let there = state c.feed_parts.new.challenger in
    let refused = subst (λ (xs : List _). RefusesObserve (of_digest.may_leave (state c.loop-i.challenger) xs) e there)
    c.as_slice.ensures c.in_err-feed_parts.ensures in
    let left = goes_on-refused _ _ _ _ _ c.loop-i.i _ c.loop-i-test.true c.index-digests-i.is c.loop-i.invariant e
    there refused in
    search (rules, left)
