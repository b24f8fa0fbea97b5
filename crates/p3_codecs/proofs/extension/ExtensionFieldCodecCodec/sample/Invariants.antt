use Rattle.std.proofs.Common.{◌-◌, take}
use Rattle.p3_challenger_core.specs.DrawLaws.{Drew}
use Rattle.p3_codecs.proofs.extension.ExtensionFieldCodecCodec.sample.Given as goal

-- the coefficients so far are drawn
abbrev pub invariant-loop-i : goal.invariant-loop-i
invariant-loop-i g l =
    let codec = g.BaseCodec.Codec in
    let n = g.EF.BasedVectorSpace.DIMENSION in
    Drew codec.sampling n (g.C.Sponge.state l.initial.challenger) (take l.i
    (g.EF.BasedVectorSpace.coefficients l.element)) (n - l.i) (g.C.Sponge.state l.challenger)
