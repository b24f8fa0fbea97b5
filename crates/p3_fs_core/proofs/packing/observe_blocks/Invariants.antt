use Rattle.std.proofs.Common.{length}
use Rattle.p3_challenger_core.specs.CallLaws.{GoesOn}
use Rattle.p3_fs_core.specs.Packing.{packed_chunks, chunk_bytes}
use Rattle.p3_fs_core.proofs.packing.observe_blocks.Given as goal

-- the chunks that are left lead where all of them lead
abbrev pub invariant-loop-rest : goal.invariant-loop-rest
invariant-loop-rest g l =
    let r = g.F.PrimeCharacteristicRing.residues in
    let size = chunk_bytes g.F.Field.bit_length in
    let state = g.C.Sponge.state in
    GoesOn g.C.CanObserve.observation.observed g.C.CanObserve.observation.may_leave (state l.fn.challenger)
    (packed_chunks r size l.fn.bytes) (state l.challenger) (packed_chunks r size l.rest)

abbrev pub decreases-loop-rest : goal.decreases-loop-rest
decreases-loop-rest g l = length l.rest
