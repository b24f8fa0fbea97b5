use Rattle.p3_grinding.{specs.Checks.ready_uniform_check, proofs.Searching.Searched}
use Rattle.p3_grinding.proofs.uniform_search.least_prepared.Given as goal

-- no candidate so far passes, and the copy is set back
abbrev pub invariant-loop-candidate : goal.invariant-loop-candidate
invariant-loop-candidate g l =
    Searched g.W.PrimeCharacteristicRing.residues
    (ready_uniform_check g.C.CanObserve.observation g.C.CanSampleUniformBits.uniform l.resample l.bits)
    (g.C.Sponge.state l.initial.challenger) (g.C.Sponge.state l.challenger) (g.C.Sponge.state l.trial) l.candidate
