use Rattle.std.proofs.Common.{drop}
use Rattle.p3_challenger_core.specs.{CallLaws.GoesOn, Observation.observed_as}
use Rattle.p3_challenger_core.specs.Observation.{each_as}
use Rattle.p3_serializing.proofs.challenger.digests.feed_caps.Given as goal

abbrev pub invariant-loop-i : goal.invariant-loop-i
invariant-loop-i g l =
    let o = observed_as g.Cap.AsSlice.items (each_as g.Digest.AsSlice.items g.Part.DigestPart.parts_observed) in
    let state = g.C.Sponge.state in
    GoesOn o.observed o.may_leave (state l.initial.challenger) l.caps (state l.challenger) (drop l.i l.caps)
