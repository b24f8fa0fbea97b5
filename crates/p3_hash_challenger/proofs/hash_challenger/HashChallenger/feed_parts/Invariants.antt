use Rattle.std.proofs.Common.{drop}
use Rattle.p3_hash_challenger.{specs.HashState.fed, proofs.Observing.LeadsOn}
use Rattle.p3_hash_challenger.proofs.hash_challenger.HashChallenger.feed_parts.Given as goal

abbrev pub invariant-loop-part : goal.invariant-loop-part
invariant-loop-part g l =
    LeadsOn (λ s part. fed s (g.Part.AsSlice.items part)) l.initial.self l.parts l.self (drop l.part-index l.parts)
