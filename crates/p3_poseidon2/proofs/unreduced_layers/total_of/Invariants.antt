use Rattle.std.proofs.Common.{◌≡◌, ◌+◌, ◌*◌, ◌≤◌, map}
use Rattle.p3_goldilocks.specs.GoldilocksResidues.{residues}
use Rattle.p3_poseidon2.specs.{Poseidon2.sum_below, Layers.number_at}
use Rattle.p3_poseidon2.proofs.unreduced_layers.total_of.Given as goal

-- the sum so far, of numbers of 64 bits
abbrev pub invariant-loop-i : goal.invariant-loop-i
invariant-loop-i g l =
    (residues.of l.others
    ≡ residues.of (sum_below l.i (λ j. number_at residues (map residues.of l.state) (1 + j))))
    × (l.others ≤ 18446744073709551615 * l.i)
