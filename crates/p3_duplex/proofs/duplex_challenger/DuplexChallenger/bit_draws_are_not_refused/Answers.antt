use Rattle.p3_challenger_core.specs.SamplingLaws.{draws-not_refused}
use Rattle.p3_duplex.proofs.duplex_challenger.DuplexChallenger.bit_draws_are_not_refused.Goals as goal

pub returns : goal.returns
returns g c bits = draws-not_refused _ _
