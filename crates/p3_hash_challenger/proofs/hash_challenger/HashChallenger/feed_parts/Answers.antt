use Rattle.std.proofs.Common.{◌∙◌, rules}
use Rattle.p3_hash_challenger.specs.{HashState.fed, HashStateLaws.all_fed}
use Rattle.p3_hash_challenger.proofs.Observing.{leads_on-end, leads_on-refused}
use Rattle.p3_hash_challenger.proofs.hash_challenger.HashChallenger.feed_parts.Goals as goal

-- each of them is fed
pub returns-clause-whole : goal.returns-clause-whole
returns-clause-whole g c =
    let items = g.Part.AsSlice.items in
    let start = c.args.self.now in
    let parts = c.args.parts.now in
    leads_on-end (λ s part. fed s (items part)) start parts c.loop-part.self c.loop-part.part-index
    c.loop-part-test.false c.loop-part.invariant
    ∙ all_fed items start parts

-- the parts before the refused one were fed
pub returns-in_err-feed-clause-err : goal.returns-in_err-feed-clause-err
returns-in_err-feed-clause-err g c =
    let left = leads_on-refused (λ s part. fed s (g.Part.AsSlice.items part)) c.args.self.now c.args.parts.now
    c.loop-part.self c.loop-part.part-index c.part-item.result c.loop-part-test.true c.loop-part.invariant in
    search (rules, left)
