use Rattle.std.proofs.Common.{ℕ, ◌+◌, ◌-◌, ◌*◌, ◌/◌, ◌≤◌, ◌∙◌, List, Some, length, slice_get, slice_range, ap, arith}
use Rattle.std.proofs.lemmas.List.Edits.{length-between}
use Rattle.sha2.specs.Sha256.{sha256}
use Rattle.p3_symmetric.proofs.Batches.{each-written, group-inside, message-of_group}
use Rattle.p3_symmetric.proofs.sha256.Sha256HasherCryptographicHasherU8ArrayU832.hash_many.Goals as goal

pub slice_bounds-four_digests-end : goal.slice_bounds-four_digests-end
slice_bounds-four_digests-end c =
    group-inside (length c.args.messages.now) (length c.args.digests.now) c.fours.group c.fours-test.true

-- the digests of a group are written, each in the place of its message
pub fours-preserved : goal.fours-preserved
fours-preserved c = λ i low.
    let messages : List ℕ = c.args.messages.now in
    let count : ℕ = length c.args.digests.now in
    let each : ℕ = length messages / count in
    let start : ℕ = 4 * c.fours.group in
    let digest : ℕ → List ℕ = λ j. sha256 (slice_range messages (j * each) (j * each + each)) in
    let room : start + 4 ≤ length c.fours.digests = omega (arith, c.fours.auto.digests, c.fours-test.true) in
    let inside = group-inside (length messages) count c.fours.group c.fours-test.true in
    each-written c.fours.digests c.copy_from_slice.new.self start (start + 4 - start) digest
    (c.copy_from_slice.ensures.len ∙ length-between c.fours.digests start (start + 4) room)
    (omega (arith, room))
    c.fours.invariant
    (λ l below.
    ap (λ four. slice_get four l) c.copy_from_slice.ensures.after
    ∙ c.four_digests-four.ensures l (omega (arith, below))
    ∙ ap (λ m. Some (sha256 m)) (message-of_group messages start each l (omega (arith, below)) inside))
    i (omega (arith, low))
