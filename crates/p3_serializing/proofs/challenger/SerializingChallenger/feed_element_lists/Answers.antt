use Rattle.std.proofs.Common.{List, subst, rules}
use Rattle.p3_serializing.specs.SerializingState.{state_of, element_observed}
use Rattle.p3_challenger_core.specs.{CallLaws.goes_on-refused, Observation.{RefusesObserve, in_row}}
use Rattle.p3_serializing.proofs.challenger.SerializingChallenger.feed_element_lists.Goals as goal

-- the lists before the refused one are observed
pub returns-in_err-feed_elements : goal.returns-in_err-feed_elements
returns-in_err-feed_elements g c =
    let inner = g.Inner.CanObserve in
    let of_part = in_row (element_observed inner.observation inner.slice_may_leave
    g.F.PrimeCharacteristicRing.residues g.row.BYTES) in
    let e = c.in_err-feed_elements.field-0.0 in
    let state = state_of g.Inner.Sponge.state in
    let there = state c.feed_elements.new.self in
    let refused = subst (λ (xs : List _). RefusesObserve (of_part.may_leave (state c.loop-i.self) xs) e there)
    c.as_slice.ensures c.in_err-feed_elements.ensures in
    let left = goes_on-refused _ _ _ _ _ c.loop-i.i _ c.loop-i-test.true c.index-lists-i.is c.loop-i.invariant e there
    refused in
    search (rules, left)
