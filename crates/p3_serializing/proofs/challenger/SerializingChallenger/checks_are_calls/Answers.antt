use Rattle.p3_serializing.proofs.Calls.{check-sampled, check-after}
use Rattle.p3_serializing.proofs.challenger.SerializingChallenger.checks_are_calls.Goals as goal

pub returns-clause-sampled : goal.returns-clause-sampled
returns-clause-sampled g c more n witness s some answers =
    check-sampled (g.Inner.CanSample.sampling.sampled s.inner) _ n some answers

pub returns-clause-after : goal.returns-clause-after
returns-clause-after g c more witness s some =
    check-after (g.Inner.CanSample.sampling.sampled s.inner) _ _ some
