use Rattle.std.proofs.Common.{take}
use Rattle.p3_challenger.specs.Sampling.{in_row}
use Rattle.uses.specs.CommitPhase.{AreDrawnInTurn}
use Rattle.uses.proofs.commit_phase.fold_challenges.Given as goal

-- the caps so far are observed, and a challenge is drawn after each
abbrev pub invariant-loop-cap : goal.invariant-loop-cap
invariant-loop-cap g l =
    AreDrawnInTurn g.C.CanObserve-2.observation.observed
    (in_row g.C.CanSample.sampling g.EF.BasedVectorSpace.DIMENSION) g.EF.BasedVectorSpace.coefficients
    (take l.cap-index l.caps) l.folds.items (g.C.Sponge.state l.initial.challenger) (g.C.Sponge.state l.challenger)
