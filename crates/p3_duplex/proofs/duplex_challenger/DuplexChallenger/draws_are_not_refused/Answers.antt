use Rattle.p3_challenger_core.specs.SamplingLaws.{draws-not_refused}
use Rattle.p3_duplex.proofs.duplex_challenger.DuplexChallenger.draws_are_not_refused.Goals as goal

pub returns : goal.returns
returns g c = draws-not_refused _ _
