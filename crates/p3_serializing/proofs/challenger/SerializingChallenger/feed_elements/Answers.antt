use Rattle.std.proofs.Common.{rules}
use Rattle.p3_challenger_core.specs.CallLaws.{goes_on-refused}
use Rattle.p3_serializing.specs.SerializingState.{state_of}
use Rattle.p3_serializing.proofs.challenger.SerializingChallenger.feed_elements.Goals as goal

-- the elements before the refused one are observed
pub returns-in_err-feed_element : goal.returns-in_err-feed_element
returns-in_err-feed_element g c =
    let left = goes_on-refused _ _ _ _ _ c.loop-i.i _ c.loop-i-test.true c.index-values-i.is c.loop-i.invariant
    c.in_err-feed_element.field-0.0 (state_of g.Inner.Sponge.state c.feed_element.new.self)
    c.in_err-feed_element.ensures in
    search (rules, left)
