use Rattle.std.proofs.Common.{◌≡◌, ◌++◌, ◌*◌, ℕ, List, take, drop, sym, ap, ◌∙◌, subst}
use Rattle.std.proofs.lemmas.Result.{err_from_is_err_and}
use Rattle.p3_challenger_core.specs.CallLaws.{GoesOn}
use Rattle.p3_fs_core.{specs.Packing.{packed_chunks, chunk_bytes}, proofs.SliceCalls.{slice-made, slice-refused}}
use Rattle.p3_fs_core.proofs.packing.observe_blocks.Goals as goal

-- a block more is observed
pub loop-rest-preserved : goal.loop-rest-preserved
loop-rest-preserved g c =
    let r = g.F.PrimeCharacteristicRing.residues in
    let m = g.C.CanObserve in
    let state = g.C.Sponge.state in
    let size = chunk_bytes g.F.Field.bit_length in
    let size_is = c.bytes_per_element-size.ensures.size in
    let all : List ℕ = c.loop-rest.rest.now in
    let front = take c.pack_chunks-count.result c.pack_chunks-count.new.elements in
    let after : List ℕ = c.split_at.result.1.now in
    let split : packed_chunks r size all ≡ front ++ packed_chunks r size after =
    subst (λ (k : ℕ). packed_chunks r k all ≡ front ++ packed_chunks r k after) size_is
    (c.pack_chunks-count.ensures.packed
    ∙ ap (λ l. front ++ packed_chunks r c.bytes_per_element-size.result l) (sym c.split_at.ensures.back)) in
    let start = state c.args.challenger.now in
    let values = packed_chunks r size c.args.bytes.now in
    let here = state c.loop-rest.challenger in
    slice-made m.observation.observed m.observation.may_leave start values here front (packed_chunks r size after)
    (subst (λ (l : List g.row.F.Denot). GoesOn m.observation.observed m.observation.may_leave start values here l) split
    c.loop-rest.invariant)
    (state c.observe_slice.new.self) c.in_ok-observe_slice.ensures.ok

-- a block is refused: those before it are observed
pub returns-in_err-observe_slice-clause-err : goal.returns-in_err-observe_slice-clause-err
returns-in_err-observe_slice-clause-err g c =
    let p = err_from_is_err_and c.from_residual.result c.from_residual.ensures.1 in
    let r = g.F.PrimeCharacteristicRing.residues in
    let m = g.C.CanObserve in
    let state = g.C.Sponge.state in
    let size = chunk_bytes g.F.Field.bit_length in
    let size_is = c.bytes_per_element-size.ensures.size in
    let all : List ℕ = c.loop-rest.rest.now in
    let front = take c.pack_chunks-count.result c.pack_chunks-count.new.elements in
    let after = drop (c.bytes_per_element-size.result * c.pack_chunks-count.result) all in
    let split : packed_chunks r size all ≡ front ++ packed_chunks r size after =
    subst (λ (k : ℕ). packed_chunks r k all ≡ front ++ packed_chunks r k after) size_is
    c.pack_chunks-count.ensures.packed in
    let start = state c.args.challenger.now in
    let values = packed_chunks r size c.args.bytes.now in
    let here = state c.loop-rest.challenger in
    rw (p.1, p.2) (slice-refused m.observation.observed m.observation.may_leave start values here front
    (packed_chunks r size after)
    (subst (λ (l : List g.row.F.Denot). GoesOn m.observation.observed m.observation.may_leave start values here l) split
    c.loop-rest.invariant)
    m.slice_may_leave g.met.C.CanObserve.slice_leaves c.in_err-observe_slice.field-0.0 (state c.observe_slice.new.self)
    c.in_err-observe_slice.ensures.err)
