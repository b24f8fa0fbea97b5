use Rattle.std.proofs.{Common.{◌≡◌, ℕ, ◌<◌, List, length, map, sym, ap, ◌∙◌, subst}, lemmas.Result.err_from_is_err_and}
use Rattle.std.specs.Slice.Iter.{chunks_rest, chunks_size}
use Rattle.p3_challenger_core.specs.{Observation.RefusesObserve, CallLaws.{GoesOn, call-made, call-refused}}
use Rattle.p3_fs_core.specs.Packing.{packed_elements, packed_chunks, chunk_bytes, little_endian}
use Rattle.p3_fs_core.specs.PackingLaws.{chunks-end}
use Rattle.p3_fs_core.proofs.SliceCalls.{first-made, goes_on-then, rest-refused, chunk-next}
use Rattle.p3_fs_core.proofs.packing.observe_packed.Goals as goal

-- a chunk more is observed
pub loop-chunk-preserved : goal.loop-chunk-preserved
loop-chunk-preserved g c =
    let r = g.F.PrimeCharacteristicRing.residues in
    let m = g.C.CanObserve.observation in
    let state = g.C.Sponge.state in
    let size = chunk_bytes g.F.Field.bit_length in
    let steps = c.in-Some.ensures.steps in
    let kept = c.loop-chunk.invariant in
    let start = state c.args.challenger.now in
    let values = packed_elements r g.F.Field.bit_length c.args.bytes.now in
    let here = state c.loop-chunk.challenger in
    let chunk : List ℕ = c.in-Some.chunk.now in
    let rest : List ℕ = chunks_rest c.next.new.self in
    let on = chunk-next r m.observed m.may_leave start here values (chunks_size c.loop-chunk.chunk-iterator) size
    (chunks_rest c.loop-chunk.chunk-iterator) chunk rest kept.0 kept.2 steps.1.2 steps.1.0 steps.1.1 kept.3 in
    let moved = c.in_ok-observe-2.ensures.ok ∙ ap (m.observed here) c.element_of_chunk.ensures in (
      subst (λ (k : ℕ). 0 < k) (sym steps.0) kept.0,
      tt,
      steps.0 ∙ kept.2,
      call-made m.observed m.may_leave start values here (state c.observe-in-loop-chunk.new.self)
          (r.of (little_endian chunk)) (packed_chunks r size rest) moved on,
    )

-- a chunk is refused: those before it are observed
pub returns-in_err-observe-2-clause-err : goal.returns-in_err-observe-2-clause-err
returns-in_err-observe-2-clause-err g c =
    let p = err_from_is_err_and c.from_residual-in_err-observe-2.result c.from_residual-in_err-observe-2.ensures.1 in
    let r = g.F.PrimeCharacteristicRing.residues in
    let m = g.C.CanObserve.observation in
    let state = g.C.Sponge.state in
    let size = chunk_bytes g.F.Field.bit_length in
    let steps = c.in-Some.ensures.steps in
    let kept = c.loop-chunk.invariant in
    let start = state c.args.challenger.now in
    let values = packed_elements r g.F.Field.bit_length c.args.bytes.now in
    let here = state c.loop-chunk.challenger in
    let end = state c.observe-in-loop-chunk.new.self in
    let chunk : List ℕ = c.in-Some.chunk.now in
    let rest : List ℕ = chunks_rest c.next.new.self in
    let on = chunk-next r m.observed m.may_leave start here values (chunks_size c.loop-chunk.chunk-iterator) size
    (chunks_rest c.loop-chunk.chunk-iterator) chunk rest kept.0 kept.2 steps.1.2 steps.1.0 steps.1.1 kept.3 in
    let e = c.in_err-observe-2.field-0.0 in
    let refused = subst (λ x. RefusesObserve (m.may_leave here x) e end) c.element_of_chunk.ensures
    c.in_err-observe-2.ensures.err in
    rw (p.1, p.2) (call-refused m.observed m.may_leave start values here end (r.of (little_endian chunk))
    (packed_chunks r size rest) e refused on)

pub returns-clause-ok : goal.returns-clause-ok
returns-clause-ok g c =
    let r = g.F.PrimeCharacteristicRing.residues in
    let m = g.C.CanObserve.observation in
    let state = g.C.Sponge.state in
    let kept = c.loop-chunk.invariant in
    let none = chunks-end (chunk_bytes g.F.Field.bit_length) (chunks_rest c.loop-chunk.chunk-iterator)
    (subst (λ (k : ℕ). 0 < k) kept.2 kept.0) c.in-None.ensures.steps.1.0 in
    (subst (λ (l : List (List ℕ)). GoesOn m.observed m.may_leave (state c.args.challenger.now)
    (packed_elements r g.F.Field.bit_length c.args.bytes.now) (state c.loop-chunk.challenger)
    (map (λ chunk. r.of (little_endian chunk)) l)) none kept.3).whole

-- before the loop the whole chunks are observed in blocks
pub loop-chunk-init : goal.loop-chunk-init
loop-chunk-init g c =
    let r = g.F.PrimeCharacteristicRing.residues in
    let m = g.C.CanObserve.observation in
    let state = g.C.Sponge.state in
    let size = chunk_bytes g.F.Field.bit_length in
    let start = state c.args.challenger.now in
    let here = state c.observe.new.self in
    let there = state c.observe_blocks.new.challenger in
    let bytes = c.args.bytes.now in
    let values = packed_elements r g.F.Field.bit_length bytes in
    let rest : List ℕ = c.in_ok-rest.rest.now in
    let moved = c.in_ok-observe.ensures.ok ∙ ap (m.observed start) c.from_u64.ensures in
    let begun = first-made m.observed m.may_leave start here (r.of (length bytes)) (packed_chunks r size bytes) moved in
    let on = goes_on-then m.observed m.may_leave start here there values (packed_chunks r size bytes)
    (packed_chunks r size rest) begun c.in_ok-rest.ensures.ok in
    let made = c.into_iter-chunk-iterator.ensures.into_iter_gives in
    let size_is : chunks_size c.into_iter-chunk-iterator.result ≡ size =
    ap chunks_size made ∙ c.chunks-chunk-items.ensures.size ∙ c.bytes_per_element.ensures.size in
    let rest_is : chunks_rest c.into_iter-chunk-iterator.result ≡ rest =
    ap chunks_rest made ∙ c.chunks-chunk-items.ensures.rest in (
      subst (λ (k : ℕ). 0 < k) (sym size_is)
          (subst (λ (k : ℕ). 0 < k) c.bytes_per_element.ensures.size c.bytes_per_element.ensures.positive),
      tt,
      size_is,
      subst (λ (l : List ℕ). GoesOn m.observed m.may_leave start values there (packed_chunks r size l)) (sym rest_is) on,
    )

-- a block is refused
pub returns-in_err-rest-clause-err : goal.returns-in_err-rest-clause-err
returns-in_err-rest-clause-err g c =
    let p = err_from_is_err_and c.from_residual-in_err-rest.result c.from_residual-in_err-rest.ensures.1 in
    let r = g.F.PrimeCharacteristicRing.residues in
    let m = g.C.CanObserve.observation in
    let state = g.C.Sponge.state in
    let start = state c.args.challenger.now in
    let here = state c.observe.new.self in
    let bytes = c.args.bytes.now in
    let left = packed_chunks r (chunk_bytes g.F.Field.bit_length) bytes in
    let moved = c.in_ok-observe.ensures.ok ∙ ap (m.observed start) c.from_u64.ensures in
    let begun = first-made m.observed m.may_leave start here (r.of (length bytes)) left moved in
    rw (p.1, p.2) (rest-refused m.observed m.may_leave start here (packed_elements r g.F.Field.bit_length bytes) left
    begun c.in_err-rest.field-0.0 (state c.observe_blocks.new.challenger) c.in_err-rest.ensures.err)
