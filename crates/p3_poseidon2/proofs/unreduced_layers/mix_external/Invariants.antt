use Rattle.std.proofs.Common.{◌*◌, map}
use Rattle.p3_field_core.specs.Residues.{sum_of}
use Rattle.p3_goldilocks.specs.GoldilocksResidues.{residues}
use Rattle.p3_poseidon2.specs.Poseidon2.{cell, times, m_e}
use Rattle.p3_poseidon2.proofs.Filling.{Filled}
use Rattle.p3_poseidon2.proofs.unreduced_layers.mix_external.Given as goal

-- each cell of the blocks so far is that of the product, with its constant
abbrev pub invariant-loop-block : goal.invariant-loop-block
invariant-loop-block g l =
    Filled (residues.of 0)
    (λ i. sum_of residues (cell residues (times residues g.row.WIDTH m_e (map residues.of l.fn.state)) i) (cell residues l.next i))
    (map residues.of l.fn.state) (4 * l.block) (map residues.of l.state)
