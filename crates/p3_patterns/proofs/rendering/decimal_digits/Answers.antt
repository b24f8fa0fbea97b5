use Rattle.std.proofs.{Common.{◌<◌, ◌^◌, length, ap, lit<, arith}, lemmas.List.length-append}
use Rattle.std.proofs.lemmas.Fmt.{decimal_digit, decimal_step, length-decimal-le}
use Rattle.p3_patterns.proofs.rendering.decimal_digits.Goals as goal

pub overflow_add-digits : goal.overflow_add-digits
overflow_add-digits c =
    let fits : c.args.n < 2 ^ 64 = omega (arith, c.ranges.n) in
    let short = length-decimal-le 20 c.args.n (lit< tt) (omega (arith, fits)) fits in
    omega (arith, short, c.loop-rest.invariant.0)

pub loop-rest-preserved : goal.loop-rest-preserved
loop-rest-preserved c =
    let fits : c.loop-rest.rest < 2 ^ 64 = omega (arith, c.ranges.n, c.loop-rest.invariant.1) in
    let last = simp length-append at (ap length (decimal_step c.loop-rest.rest c.loop-rest-test.true fits)) in
    (omega (arith, last, c.loop-rest.invariant.0), omega (arith, c.loop-rest.invariant.1))

pub returns : goal.returns
returns c = omega (arith, ap length (decimal_digit c.loop-rest.rest c.loop-rest-test.false), c.loop-rest.invariant.0)
