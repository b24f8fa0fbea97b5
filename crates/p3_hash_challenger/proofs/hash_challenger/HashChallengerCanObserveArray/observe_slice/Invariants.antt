use Rattle.std.proofs.Common.{drop}
use Rattle.p3_hash_challenger.{specs.HashState.array_observed, proofs.Observing.LeadsOn}
use Rattle.p3_hash_challenger.proofs.hash_challenger.HashChallengerCanObserveArray.observe_slice.Given as goal

abbrev pub invariant-loop-value : goal.invariant-loop-value
invariant-loop-value g l = LeadsOn array_observed l.initial.self l.values l.self (drop l.value-index l.values)
