use Rattle.std.proofs.Common.{arith, length-take}
use Rattle.tealmuze_calls.proofs.answers.shortened.Goals as goal

pub slice_bounds-result-end : goal.slice_bounds-result-end
slice_bounds-result-end c = omega (arith, length-take 1000 c.args.text.now, c.if-text-le-LONGEST.false)

pub returns-else-text-le-LONGEST : goal.returns-else-text-le-LONGEST
returns-else-text-le-LONGEST c = omega (arith, length-take 1000 c.args.text.now, c.if-text-le-LONGEST.false)
