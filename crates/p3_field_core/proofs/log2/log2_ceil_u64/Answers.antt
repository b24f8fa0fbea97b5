use Rattle.std.proofs.Common.{arith}
use Rattle.p3_field_core.proofs.BitLengths.{length-enough, length-least}
use Rattle.p3_field_core.proofs.log2.log2_ceil_u64.Goals as goal

pub returns-clause-enough : goal.returns-clause-enough
returns-clause-enough c = length-enough c.args.n c.from.result c.requires (omega arith) c.from.ensures

pub returns-clause-least : goal.returns-clause-least
returns-clause-least c = length-least c.args.n c.from.result c.requires (omega arith) c.from.ensures
