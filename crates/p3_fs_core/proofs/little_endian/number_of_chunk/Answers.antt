use Rattle.std.proofs.Common.{◌<◌, ◌-◌, length, arith}
use Rattle.p3_fs_core.proofs.LowFirst.{number-fits}
use Rattle.p3_fs_core.proofs.little_endian.number_of_chunk.Goals as goal

-- there is room for one byte more
pub overflow_mul-number : goal.overflow_mul-number
overflow_mul-number c =
    let bytes = c.args.bytes.now in
    let below : c.loop-i.i < length bytes = omega (arith, c.loop-i-test.true, c.loop-i.auto.i-end) in
    let none : 0 < 256 = omega arith in
    let fits = number-fits bytes c.loop-i.i c.loop-i.number 0 (λ k. omega (arith, c.type_inv.bytes k)) c.requires below
    c.loop-i.invariant none in
    omega (arith, fits)

pub overflow_add-number : goal.overflow_add-number
overflow_add-number c =
    let bytes = c.args.bytes.now in
    let below : c.loop-i.i < length bytes = omega (arith, c.loop-i-test.true, c.loop-i.auto.i-end) in
    let small : c.from.result < 256 =
    omega (arith, c.from.ensures, c.type_inv.bytes (length bytes - 1 - c.loop-i.i)) in
    let fits = number-fits bytes c.loop-i.i c.loop-i.number c.from.result (λ k. omega (arith, c.type_inv.bytes k))
    c.requires below c.loop-i.invariant small in
    omega (arith, fits)
