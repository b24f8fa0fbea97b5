use Rattle.std.proofs.Common.{◌≡◌, ◌++◌, ◌*◌, ℕ, List, map, take, drop}
use Rattle.p3_fs_core.specs.Packing.{chunks, little_endian}
use Rattle.p3_fs_core.proofs.packing.pack_chunks.Given as goal

-- the chunks so far are packed
abbrev pub invariant-loop-i : goal.invariant-loop-i
invariant-loop-i g l =
    let element = λ (chunk : List ℕ). g.F.PrimeCharacteristicRing.residues.of (little_endian chunk) in
    map element (chunks l.size l.bytes)
    ≡ take l.i l.elements ++ map element (chunks l.size (drop (l.size * l.i) l.bytes))
