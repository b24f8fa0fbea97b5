use Rattle.p3_challenger_core.specs.ObservationLaws.{row-not_refused}
use Rattle.p3_duplex.proofs.duplex_challenger.DuplexChallenger.observes_are_not_refused.Goals as goal

pub returns : goal.returns
returns g c = row-not_refused _
