use Rattle.std.proofs.{Common.{◌≡◌, ◌∙◌, List, get_or, subst, rules}, lemmas.List.get_or_default}
use Rattle.p3_challenger_core.specs.{CallLaws.{goes_on-next, goes_on-refused}, Observation.RefusesObserve}
use Rattle.p3_serializing.specs.{BytesLaws.bytes_of_8, SerializingState.{state_of, bytes_observed, number_observed}}
use Rattle.p3_serializing.proofs.challenger.digests.U64DigestPartSerializingChallenger.feed_parts.Goals as goal

pub loop-i-preserved : goal.loop-i-preserved
loop-i-preserved g c =
    let inner = g.Inner.CanObserve in
    let of_bytes = bytes_observed inner.observation inner.slice_may_leave in
    let o = number_observed inner.observation inner.slice_may_leave 8 in
    let state = state_of g.Inner.Sponge.state in
    let words = c.args.parts.now in
    let word = get_or words c.loop-i.i 0 in
    goes_on-next o.observed o.may_leave (state c.args.challenger.now) words (state c.loop-i.challenger) c.loop-i.i word
    c.loop-i-test.true (get_or_default words c.loop-i.i 0 word c.loop-i-test.true) c.loop-i.invariant
    (state c.feed.new.self)
    (subst (λ (bytes : List _). state c.feed.new.self ≡ of_bytes.observed (state c.loop-i.challenger) bytes)
    (c.to_le_bytes.ensures ∙ bytes_of_8 word) c.in_ok-feed.ensures)

-- the words before the refused one are observed
pub returns-in_err-feed : goal.returns-in_err-feed
returns-in_err-feed g c =
    let inner = g.Inner.CanObserve in
    let of_bytes = bytes_observed inner.observation inner.slice_may_leave in
    let o = number_observed inner.observation inner.slice_may_leave 8 in
    let state = state_of g.Inner.Sponge.state in
    let words = c.args.parts.now in
    let word = get_or words c.loop-i.i 0 in
    let left = goes_on-refused o.observed o.may_leave (state c.args.challenger.now) words (state c.loop-i.challenger)
    c.loop-i.i word c.loop-i-test.true (get_or_default words c.loop-i.i 0 word c.loop-i-test.true) c.loop-i.invariant
    c.in_err-feed.field-0.0 (state c.feed.new.self)
    (subst (λ (bytes : List _). RefusesObserve (of_bytes.may_leave (state c.loop-i.challenger) bytes)
    c.in_err-feed.field-0.0 (state c.feed.new.self)) (c.to_le_bytes.ensures ∙ bytes_of_8 word)
    c.in_err-feed.ensures) in
    search (rules, left)
