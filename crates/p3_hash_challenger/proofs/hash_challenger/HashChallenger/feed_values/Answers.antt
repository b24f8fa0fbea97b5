use Rattle.std.{proofs.Common.{◌+◌, drop, sym, ap, ◌∙◌, subst, rules}, specs.List.flat_map}
use Rattle.p3_challenger_core.specs.Observation.{LeavesBeginning}
use Rattle.p3_hash_challenger.proofs.Observing.{LeadsThrough, leads_through-next, leads_through-refused}
use Rattle.p3_hash_challenger.specs.{HashState.{HashState, fed}, HashStateLaws.all_fed}
use Rattle.p3_hash_challenger.proofs.hash_challenger.HashChallenger.feed_values.Goals as goal

-- the parts of the value are fed as one list
pub loop-value-preserved : goal.loop-value-preserved
loop-value-preserved g c =
    let items = g.Part.AsSlice.items in
    let parts = g.V.AsSlice.items in
    let start = c.args.self.now in
    let values = c.args.values.now in
    let here = c.loop-value.self in
    let whole = λ (s : HashState g.row.T.Denot g.row.H.Denot) (value : g.row.V.Denot). fed s
    (flat_map items (parts value)) in
    let step = λ (s : HashState g.row.T.Denot g.row.H.Denot) (part : g.row.Part.Denot). fed s (items part) in
    let on = leads_through-next whole step parts (λ s value. all_fed items s (parts value)) start values here
    c.loop-value.value-index c.value-item.result c.loop-value-test.true c.value-item.is c.loop-value.invariant in
    let moved = c.in_ok-feed_parts.ensures.whole ∙ ap (λ ps. fed here (flat_map items ps)) c.as_slice.ensures in
    subst (λ s. LeadsThrough whole step parts start values s (drop (c.loop-value.value-index + 1) values))
    (sym moved) on

-- the parts before the refused one were fed
pub returns-in_err-feed_parts-clause-err : goal.returns-in_err-feed_parts-clause-err
returns-in_err-feed_parts-clause-err g c =
    let items = g.Part.AsSlice.items in
    let parts = g.V.AsSlice.items in
    let start = c.args.self.now in
    let values = c.args.values.now in
    let here = c.loop-value.self in
    let after = c.feed_parts.new.self in
    let step = λ (s : HashState g.row.T.Denot g.row.H.Denot) (part : g.row.Part.Denot). fed s (items part) in
    let left = leads_through-refused (λ s value. fed s (flat_map items (parts value))) step parts
    (λ s value. all_fed items s (parts value)) start values here c.loop-value.value-index c.value-item.result
    c.loop-value-test.true c.value-item.is c.loop-value.invariant after in
    let left_of_read = λ (h : LeavesBeginning step here c.as_slice.result.now after).
    left (subst (λ ps. LeavesBeginning step here ps after) c.as_slice.ensures h) in
    search (rules, left_of_read)
