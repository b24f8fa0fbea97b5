use Rattle.std.proofs.Common.{drop}
use Rattle.p3_challenger_core.specs.CallLaws.{GoesOn}
use Rattle.p3_codecs.proofs.extension.ExtensionFieldCodecCodec.observe.Given as goal

-- the coefficients that are left lead where all of them lead
abbrev pub invariant-loop-coefficient : goal.invariant-loop-coefficient
invariant-loop-coefficient g l =
    let codec = g.BaseCodec.Codec in
    let state = g.C.Sponge.state in
    GoesOn codec.observation.observed codec.observation.may_leave (state l.initial.challenger) l.coefficients
    (state l.challenger) (drop l.coefficient-index l.coefficients)
