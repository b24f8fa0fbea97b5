use Rattle.std.proofs.Common.{◌≡◌, ◌+◌, ◌*◌, length}
use Rattle.p3_hash_challenger.specs.WitnessSearch.{BeginWith}
use Rattle.p3_hash_challenger.proofs.hash_challenger.witness_search.messages_with_room.Given as goal

-- each message so far begins with what is pending
abbrev pub invariant-messages : goal.invariant-messages
invariant-messages g l =
    (length l.messages.items ≡ l._j * (length l.pending + g.row.W))
    × BeginWith l.pending (length l.pending + g.row.W) l.messages.items
