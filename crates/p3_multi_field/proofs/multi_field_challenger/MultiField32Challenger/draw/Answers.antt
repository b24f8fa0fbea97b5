use Rattle.std.proofs.Common.{arith}
use Rattle.p3_multi_field.proofs.Numbers.{place-inside}
use Rattle.p3_multi_field.proofs.multi_field_challenger.MultiField32Challenger.draw.Goals as goal

-- an output stands in a cell of the rate
pub digit_at-requires-clause-inside : goal.digit_at-requires-clause-inside
digit_at-requires-clause-inside g c =
    let keeps = c.self-2.invariant in
    let inside = place-inside g.row.RATE g.PF.FieldBridge.SQUEEZE_COUNT c.self-2.inside.outputs_left keeps.positive
    keeps.some_digits keeps.left in
    omega (arith, inside, keeps.capacity, c.self-2.told)
