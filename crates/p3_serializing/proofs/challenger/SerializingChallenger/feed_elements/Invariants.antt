use Rattle.std.proofs.Common.{drop}
use Rattle.p3_challenger_core.specs.CallLaws.{GoesOn}
use Rattle.p3_serializing.specs.SerializingState.{state_of, element_observed}
use Rattle.p3_serializing.proofs.challenger.SerializingChallenger.feed_elements.Given as goal

abbrev pub invariant-loop-i : goal.invariant-loop-i
invariant-loop-i g l =
    let inner = g.Inner.CanObserve in
    let o = element_observed inner.observation inner.slice_may_leave g.F.PrimeCharacteristicRing.residues g.row.BYTES in
    let state = state_of g.Inner.Sponge.state in
    GoesOn o.observed o.may_leave (state l.initial.self) l.values (state l.self) (drop l.i l.values)
