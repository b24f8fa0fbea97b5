use Rattle.std.proofs.Common.{drop}
use Rattle.p3_challenger_core.specs.CallLaws.{GoesOn}
use Rattle.p3_driver_core.proofs.lists.observe_values.Given as goal

-- the values that are left lead where all of them lead
abbrev pub invariant-loop-value : goal.invariant-loop-value
invariant-loop-value g l =
    let codec = g.Cdc.Codec in
    let state = g.C.Sponge.state in
    GoesOn codec.observation.observed codec.observation.may_leave (state l.initial.challenger) l.values
    (state l.challenger) (drop l.value-index l.values)
