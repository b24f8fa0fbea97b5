use Rattle.std.proofs.Common.{◌≡◌, ◌+◌, ◌-◌, ◌*◌, ◌≤◌, length, drop, ◌∙◌, arith}
use Rattle.std.proofs.lemmas.List.{length-take, length-drop}
use Rattle.p3_hash_challenger.proofs.Messages.{ends_before, written-length, written-begin, written-messages}
use Rattle.p3_hash_challenger.proofs.hash_challenger.witness_search.write_candidates.Goals as goal

pub candidates-init : goal.candidates-init
candidates-init g c = (c.requires.room, c.requires.begin, λ k below. absurd (omega (arith, below)))

-- the bytes of one candidate more
pub candidates-preserved : goal.candidates-preserved
candidates-preserved g c =
    let pending = c.args.pending.now in
    let encoded = g.K.ByteCandidates.encoded c.args.candidates.now in
    let each = length pending + g.row.W in
    let j = c.candidates.j in
    let messages = c.candidates.messages in
    let ys = c.copy_from_slice.new.self in
    let end = j * each + each in
    let at = end - g.row.W in
    let room : j * each + each ≤ length messages =
    omega (arith, ends_before j c.args.count each c.candidates-test.true, c.candidates.invariant.0) in
    let is : ys ≡ encoded (c.args.first + j) = c.copy_from_slice.ensures.after ∙ c.encode-bytes.ensures in
    let whole : length ys ≡ g.row.W =
    omega (
      arith,
      room,
      c.copy_from_slice.ensures.len,
      length-take (end - at) (drop at messages),
      length-drop at messages,
    ) in
    let so_far = c.candidates.invariant.1 in (
      omega (
        arith,
        c.candidates.invariant.0,
        written-length pending encoded g.row.W c.args.first messages ys j room is whole so_far,
      ),
      written-begin pending encoded g.row.W c.args.first messages ys j room is whole so_far,
      written-messages pending encoded g.row.W c.args.first messages ys j room is whole so_far
          c.candidates.invariant.2,
    )

pub returns-clause-kept : goal.returns-clause-kept
returns-clause-kept g c = c.candidates.invariant.1

pub returns-clause-each_message : goal.returns-clause-each_message
returns-clause-each_message g c = λ j below. c.candidates.invariant.2 j (omega (arith, below, c.candidates-test.false))
