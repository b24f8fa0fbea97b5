use Rattle.std.proofs.Common.{◌≡◌, ◌+◌, ◌*◌, ◌++◌, length, replicate, sym, ap, subst, ◌∙◌, arith}
use Rattle.std.proofs.lemmas.List.{length-replicate}
use Rattle.p3_hash_challenger.{specs.WitnessSearch.BeginWith, proofs.Messages.{begin_none, more-room, more-begin}}
use Rattle.p3_hash_challenger.proofs.hash_challenger.witness_search.messages_with_room.Goals as goal

pub messages-init : goal.messages-init
messages-init g c =
    let none = ap length c.in_ok-messages.ensures.items in
    (omega (arith, none), begin_none c.args.pending.now g.row.W c.in_ok-messages.messages.items none)

-- one message more
pub messages-preserved : goal.messages-preserved
messages-preserved g c =
    let pending = c.args.pending.now in
    let fillers = replicate g.row.W 0 in
    let size = length-replicate g.row.W 0 in
    let messages = c.messages.messages.items in
    let grown : c.extend_from_slice-in-messages.new.self.items ≡ (messages ++ pending) ++ fillers =
    c.in_ok-extend_from_slice-2.ensures.items ∙ ap (λ v. v ++ fillers) c.in_ok-extend_from_slice.ensures.items in
    let room = c.messages.invariant.0 in
    let so_far = c.messages.invariant.1 in (
      ap length grown ∙ more-room pending fillers messages c.messages._j g.row.W size room so_far,
      subst (BeginWith pending (length pending + g.row.W)) (sym grown)
          (more-begin pending fillers messages c.messages._j g.row.W size room so_far),
    )

pub returns-clause-begin : goal.returns-clause-begin
returns-clause-begin g c = c.messages.invariant.1

pub returns-clause-room : goal.returns-clause-room
returns-clause-room g c =
    let all : c.messages._j ≡ c.args.count = omega (arith, c.messages-test.false, c.messages.auto._j-end) in
    c.messages.invariant.0 ∙ ap (λ n. n * (length c.args.pending.now + g.row.W)) all
