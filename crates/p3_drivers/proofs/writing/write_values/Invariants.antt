use Rattle.std.proofs.Common.{drop}
use Rattle.p3_drivers.proofs.Pieces.{Encoded}
use Rattle.p3_drivers.proofs.writing.write_values.Given as goal

-- the values so far are encoded
abbrev pub invariant-loop-value : goal.invariant-loop-value
invariant-loop-value g l =
    Encoded g.Cdc.Codec.encoding.wire l.fn.narg.items l.values l.narg.items (drop l.value-index l.values)
