use Rattle.std.proofs.Common.{◌≡◌, ◌≤◌, ◌<◌, ◌+◌, ◌-◌, ◌*◌, ◌/◌, ℕ, List, length, map, take, drop, arith, ap, ◌∙◌}
use Rattle.std.proofs.Math.Nat.{mul-le-mul_left}
use Rattle.p3_fs_core.{specs.Packing.{chunks, little_endian}, proofs.Packed.packed-next}
use Rattle.p3_fs_core.proofs.packing.pack_chunks.Goals as goal

-- a chunk more is packed
pub loop-i-preserved : goal.loop-i-preserved
loop-i-preserved g c =
    let of = g.F.PrimeCharacteristicRing.residues.of in
    let size = c.args.size in
    let bytes = c.args.bytes.now in
    let i = c.loop-i.i in
    let more : i + 1 ≤ length bytes / size = omega (arith, c.loop-i-test.true, c.min-count.ensures) in
    let inside : size * i + size ≤ length bytes =
    omega (arith, mul-le-mul_left size more, c.requires.positive) in
    let in_range : i < length c.loop-i.elements =
    omega (arith, c.loop-i-test.true, c.min-count.ensures, c.loop-i.auto.elements) in
    let same : size * i + size - size * i ≡ size = omega arith in
    packed-next (λ (chunk : List ℕ). of (little_endian chunk)) size i bytes c.loop-i.elements c.requires.positive inside
    in_range (map (λ (chunk : List ℕ). of (little_endian chunk)) (chunks size bytes)) c.loop-i.invariant
    c.element_of_chunk.result
    (c.element_of_chunk.ensures ∙ ap (λ k. of (little_endian (take k (drop (size * i) bytes)))) same)
