use Rattle.std.{proofs.Common.drop, specs.List.flat_map}
use Rattle.p3_hash_challenger.{specs.HashState.fed, proofs.Observing.LeadsThrough}
use Rattle.p3_hash_challenger.proofs.hash_challenger.HashChallenger.feed_values.Given as goal

abbrev pub invariant-loop-value : goal.invariant-loop-value
invariant-loop-value g l =
    let items = g.Part.AsSlice.items in
    let parts = g.V.AsSlice.items in
    LeadsThrough (λ s value. fed s (flat_map items (parts value))) (λ s part. fed s (items part)) parts
    l.initial.self l.values l.self (drop l.value-index l.values)
