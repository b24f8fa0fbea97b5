use Rattle.std.{proofs.Common.{◌≡◌, ◌++◌, take}, specs.List.flat_map}
use Rattle.p3_codecs.proofs.extension.ExtensionFieldCodecCodec.encode.Given as goal

-- the coefficients so far are encoded
abbrev pub invariant-loop-coefficient : goal.invariant-loop-coefficient
invariant-loop-coefficient g l =
    l.out.items ≡ l.initial.out.items ++ flat_map g.BaseCodec.Codec.encoding.wire
    (take l.coefficient-index l.coefficients)
