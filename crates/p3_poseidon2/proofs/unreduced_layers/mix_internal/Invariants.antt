use Rattle.std.proofs.Common.{map}
use Rattle.p3_goldilocks.specs.GoldilocksResidues.{residues}
use Rattle.p3_poseidon2.specs.{Poseidon2.{product_cell, m_i}, Layers.number_at}
use Rattle.p3_poseidon2.proofs.Filling.{Filled}
use Rattle.p3_poseidon2.proofs.unreduced_layers.mix_internal.Given as goal

-- each cell so far is that of the product
abbrev pub invariant-loop-i : goal.invariant-loop-i
invariant-loop-i g l =
    Filled (residues.of 0)
    (product_cell residues g.row.WIDTH (m_i (number_at residues l.diagonal)) (map residues.of l.fn.state))
    (map residues.of l.fn.state) l.i (map residues.of l.state)
