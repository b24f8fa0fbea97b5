use Rattle.p3_challenger_core.specs.{Observation.in_slice, Sampling.in_row}
use Rattle.p3_grinding.{specs.Checks.byte_check, proofs.Searching.Tried}
use Rattle.p3_grinding.proofs.byte_grinding_challenger.find_witness_plainly.Given as goal

-- no candidate so far passes, and the copy is set back
abbrev pub invariant-loop-candidate : goal.invariant-loop-candidate
invariant-loop-candidate g l =
    Tried (byte_check (in_slice g.C.CanObserve.observation g.C.CanObserve.slice_may_leave)
    (in_row g.C.CanSample.sampling g.row.S) (g.K.ByteCandidates.encoded l.candidates)
    (g.K.ByteCandidates.accepted l.candidates)) (g.C.Sponge.state l.challenger) (g.C.Sponge.state l.trial) l.candidate
