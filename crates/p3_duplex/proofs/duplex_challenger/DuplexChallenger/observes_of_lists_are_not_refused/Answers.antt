use Rattle.p3_challenger_core.specs.ObservationLaws.{row-not_refused}
use Rattle.p3_duplex.proofs.duplex_challenger.DuplexChallenger.observes_of_lists_are_not_refused.Goals as goal

pub returns-clause-arrays : goal.returns-clause-arrays
returns-clause-arrays g c = row-not_refused _

pub returns-clause-digests : goal.returns-clause-digests
returns-clause-digests g c = row-not_refused _

pub returns-clause-caps : goal.returns-clause-caps
returns-clause-caps g c = row-not_refused _

pub returns-clause-lists : goal.returns-clause-lists
returns-clause-lists g c = row-not_refused _
