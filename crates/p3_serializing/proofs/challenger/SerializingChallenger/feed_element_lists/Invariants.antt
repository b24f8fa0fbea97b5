use Rattle.std.proofs.Common.{drop}
use Rattle.p3_serializing.specs.SerializingState.{state_of, element_observed}
use Rattle.p3_challenger_core.specs.{CallLaws.GoesOn, Observation.{observed_as, in_row}}
use Rattle.p3_serializing.proofs.challenger.SerializingChallenger.feed_element_lists.Given as goal

abbrev pub invariant-loop-i : goal.invariant-loop-i
invariant-loop-i g l =
    let inner = g.Inner.CanObserve in
    let of_part = in_row (element_observed inner.observation inner.slice_may_leave
    g.F.PrimeCharacteristicRing.residues g.row.BYTES) in
    let o = observed_as g.Part.AsSlice.items of_part in
    let state = state_of g.Inner.Sponge.state in
    GoesOn o.observed o.may_leave (state l.initial.self) l.lists (state l.self) (drop l.i l.lists)
