use Rattle.std.{proofs.Common.{◌≡◌, map}, specs.Slice.Iter.{chunks_rest, chunks_size}}
use Rattle.p3_challenger_core.specs.CallLaws.{GoesOn}
use Rattle.p3_fs_core.specs.Packing.{packed, chunks, chunk_bytes, little_endian}
use Rattle.p3_fs_core.proofs.packing.observe_packed.Given as goal

-- the chunks that are left lead where all of them lead
abbrev pub invariant-loop-chunk : goal.invariant-loop-chunk
invariant-loop-chunk g l =
    let r = g.F.PrimeCharacteristicRing.residues in
    let size = chunk_bytes g.F.Field.bit_length in
    let state = g.C.Sponge.state in
    (goal.iterator-loop-chunk g).can_next l.chunk-iterator
    × (goal.iterator-loop-chunk g).is_finite l.chunk-iterator
    × (chunks_size l.chunk-iterator ≡ size)
    × GoesOn g.C.CanObserve.observation.observed g.C.CanObserve.observation.may_leave (state l.fn.challenger)
    (packed r size l.fn.bytes) (state l.challenger)
    (map (λ chunk. r.of (little_endian chunk)) (chunks size (chunks_rest l.chunk-iterator)))
