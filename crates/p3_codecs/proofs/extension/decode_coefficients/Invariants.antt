use Rattle.std.proofs.Common.{take}
use Rattle.p3_codecs.proofs.Coefficients.{HasRead}
use Rattle.p3_codecs.proofs.extension.decode_coefficients.Given as goal

-- the coefficients so far are read
abbrev pub invariant-loop-i : goal.invariant-loop-i
invariant-loop-i g l =
    let codec = g.BaseCodec.Codec in
    let space = g.EF.BasedVectorSpace in
    HasRead codec.encoding.read codec.encoding.width space.DIMENSION l.bytes (take l.i (space.coefficients l.element))
    l.i
