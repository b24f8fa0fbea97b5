use Rattle.std.proofs.Common.{◌<◌, arith}
use Rattle.uses.proofs.OwnHasher.{evaluated-none, evaluated-more, evaluated-all}
use Rattle.uses.proofs.own_hasher.evaluate.Goals as goal

pub loop-byte-init : goal.loop-byte-init
loop-byte-init c = evaluated-none c.args.bytes.now

pub loop-byte-preserved : goal.loop-byte-preserved
loop-byte-preserved c =
    evaluated-more c.args.bytes.now c.loop-byte.byte-index c.loop-byte.value c.loop-byte-test.true
    c.loop-byte.invariant

pub returns : goal.returns
returns c =
    let small : c.loop-byte.value < 256 = omega (arith, c.loop-byte.auto.value-fits) in
    evaluated-all c.args.bytes.now c.loop-byte.byte-index c.loop-byte.value c.loop-byte-test.false small
    c.loop-byte.invariant
