use Rattle.p3_challenger.specs.Sampling.{in_row}
use Rattle.uses.proofs.CommitPhase.{round-more}
use Rattle.uses.proofs.commit_phase.fold_challenges.Goals as goal

pub loop-cap-preserved : goal.loop-cap-preserved
loop-cap-preserved g c =
    round-more g.C.CanObserve-2.observation.observed
    (in_row g.C.CanSample.sampling g.EF.BasedVectorSpace.DIMENSION) g.EF.BasedVectorSpace.coefficients
    c.args.caps.now c.loop-cap.cap-index c.cap-item.result c.loop-cap-test.true c.cap-item.is _ _ _ _ _ _ _
    c.loop-cap.invariant c.in_ok-observe.ensures.ok c.in_ok-sample_algebra_element.ensures.drawn
    c.in_ok-sample_algebra_element.ensures.after c.in_ok-push.ensures.items
