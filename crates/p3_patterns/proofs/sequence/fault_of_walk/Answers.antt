use Rattle.std.proofs.Common.{◌<◌, length, inl, rules}
use Rattle.p3_patterns.{specs.Walks.WalksTo, proofs.FirstFaults.names-whole}
use Rattle.p3_patterns.proofs.sequence.fault_of_walk.Goals as goal

pub fault_of_next-requires-clause-stuck : goal.fault_of_next-requires-clause-stuck
fault_of_next-requires-clause-stuck c = λ viable.
    let walks : WalksTo c.args.interactions.items c.in-Ok.walked c.args.containers.openers.items = search rules in
    let more : c.in-Ok.walked < length c.args.interactions.items = search rules in
    walks.stuck c.index.result.now more (rw (c.deref.ensures.value, c.index.ensures) at viable)

pub returns : goal.returns
returns c =
    let more : c.in-Ok.walked < length c.args.interactions.items = search rules in
    inl (names-whole c.args.interactions.items c.in-Ok.walked c.index.result.now c.fault_of_next.result more
    (rw (c.deref.ensures.value, c.index.ensures) at c.fault_of_next.ensures))
