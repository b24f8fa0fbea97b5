use Rattle.std.proofs.Common.{List, subst, rules}
use Rattle.p3_challenger_core.specs.{CallLaws.goes_on-refused, Observation.RefusesObserve}
use Rattle.p3_challenger_core.specs.Observation.{each_as}
use Rattle.p3_serializing.proofs.challenger.digests.feed_caps.Goals as goal

-- the caps before the refused one are observed
pub returns-in_err-feed_digests : goal.returns-in_err-feed_digests
returns-in_err-feed_digests g c =
    let of_cap = each_as g.Digest.AsSlice.items g.Part.DigestPart.parts_observed in
    let state = g.C.Sponge.state in
    let e = c.in_err-feed_digests.field-0.0 in
    let there = state c.feed_digests.new.challenger in
    let refused = subst (λ (xs : List _). RefusesObserve (of_cap.may_leave (state c.loop-i.challenger) xs) e there)
    c.as_slice.ensures c.in_err-feed_digests.ensures in
    let left = goes_on-refused _ _ _ _ _ c.loop-i.i _ c.loop-i-test.true c.index-caps-i.is c.loop-i.invariant e there
    refused in
    search (rules, left)
