use Rattle.std.proofs.Common.{◌-◌, nat_lt}
use Rattle.p3_grinding.specs.CandidateLaws.{Seeks}
use Rattle.p3_serializing.specs.SerializingState.{bits_of_order, low_bits_of_group}
use Rattle.p3_serializing.proofs.challenger.draws.draw_element.Given as goal

-- each group so far was refused
abbrev pub invariant-loop : goal.invariant-loop
invariant-loop g l =
    let order = g.F.PrimeCharacteristicRing.residues.order in
    let d = low_bits_of_group g.Inner.CanSample.sampling g.row.BYTES (bits_of_order order) in
    let state = g.Inner.Sponge.state in
    Seeks d (λ x. nat_lt x order) l.draw_limit (state l.initial.inner) (l.draw_limit - l.counter) (state l.inner)
