use Rattle.std.proofs.Common.{drop}
use Rattle.p3_challenger_core.specs.CallLaws.{GoesOn}
use Rattle.p3_serializing.specs.SerializingState.{state_of, number_observed}
use Rattle.p3_serializing.proofs.challenger.digests.U64DigestPartSerializingChallenger.feed_parts.Given as goal

abbrev pub invariant-loop-i : goal.invariant-loop-i
invariant-loop-i g l =
    let inner = g.Inner.CanObserve in
    let o = number_observed inner.observation inner.slice_may_leave 8 in
    let state = state_of g.Inner.Sponge.state in
    GoesOn o.observed o.may_leave (state l.initial.challenger) l.parts (state l.challenger) (drop l.i l.parts)
