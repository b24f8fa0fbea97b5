use Rattle.std.proofs.Common.{drop}
use Rattle.p3_challenger_core.specs.{Observation.observed_all, CallLaws.GoesOn}
use Rattle.p3_challenger_core.proofs.field_challenger.FieldChallenger.observe_algebra_slice.Given as goal

abbrev pub invariant-loop-i : goal.invariant-loop-i
invariant-loop-i g l =
    let m = g.Self.CanObserve in
    let coefficients = g.A.BasedVectorSpace.coefficients in
    let state = g.Self.Sponge.state in
    GoesOn (λ s element. observed_all m.observation.observed s (coefficients element))
    (λ s element t. m.slice_may_leave s (coefficients element) t)
    (state l.initial.self) l.elements (state l.self) (drop l.i l.elements)
