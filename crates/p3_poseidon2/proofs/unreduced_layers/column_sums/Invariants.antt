use Rattle.std.proofs.Common.{◌≡◌, ◌≤◌, ◌*◌, map}
use Rattle.p3_goldilocks.specs.GoldilocksResidues.{residues}
use Rattle.p3_poseidon2.specs.Layers.{number_at, column}
use Rattle.p3_poseidon2.proofs.unreduced_layers.column_sums.Given as goal

-- the sums of the blocks so far, each of numbers of 64 bits
abbrev pub invariant-loop-block : goal.invariant-loop-block
invariant-loop-block g l =
    let n = number_at residues (map residues.of l.state) in
    (residues.of l.first ≡ residues.of (column n 0 l.block))
    × (residues.of l.second ≡ residues.of (column n 1 l.block))
    × (residues.of l.third ≡ residues.of (column n 2 l.block))
    × (residues.of l.fourth ≡ residues.of (column n 3 l.block))
    × (l.first ≤ 18446744073709551615 * l.block) × (l.second ≤ 18446744073709551615 * l.block)
    × (l.third ≤ 18446744073709551615 * l.block) × (l.fourth ≤ 18446744073709551615 * l.block)
