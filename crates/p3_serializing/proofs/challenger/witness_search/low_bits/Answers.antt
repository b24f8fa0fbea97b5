use Rattle.std.proofs.Common.{◌-◌, ◌*◌, ◌%◌, ◌^◌, ap, arith}
use Rattle.p3_challenger_core.specs.BitLaws.{shifted, shifted-positive}
use Rattle.p3_serializing.proofs.Masks.{masked}
use Rattle.p3_serializing.proofs.challenger.witness_search.low_bits.Goals as goal

pub overflow_shl-result : goal.overflow_shl-result
overflow_shl-result c = omega (arith, c.requires)

pub overflow_sub-result : goal.overflow_sub-result
overflow_sub-result c = shifted-positive c.args.bits c.requires

pub returns : goal.returns
returns c =
    let bits = c.args.bits in
    masked c.args.word ((1 * 2 ^ bits) % 18446744073709551616 - 1) bits (ap (λ n. n - 1) (shifted bits c.requires))
