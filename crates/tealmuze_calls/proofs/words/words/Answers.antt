use Rattle.std.proofs.Common.{below_more, arith}
use Rattle.std.proofs.lemmas.Grind.{common_steps}
use Rattle.tealmuze_calls.proofs.words.words.Goals as goal

pub loop-number-preserved : goal.loop-number-preserved
loop-number-preserved g c = record {
  numbers_are = grind (arith, common_steps, c.in-Some.ensures.some.0, c.loop-number.invariant.numbers_are);
  each = below_more _ _ c.loop-number.invariant.each c.in-Some.ensures.some.1;
}
