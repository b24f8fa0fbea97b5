use Rattle.std.proofs.Common.{map}
use Rattle.p3_field_core.specs.Residues.{sum_of}
use Rattle.p3_goldilocks.specs.GoldilocksResidues.{residues}
use Rattle.p3_poseidon2.specs.Poseidon2.{cell}
use Rattle.p3_poseidon2.proofs.Filling.{Filled}
use Rattle.p3_poseidon2.proofs.unreduced_layers.add_constants.Given as goal

-- each cell so far has its constant
abbrev pub invariant-loop-i : goal.invariant-loop-i
invariant-loop-i g l =
    Filled (residues.of 0) (λ i. sum_of residues (cell residues (map residues.of l.fn.state) i) (cell residues l.constants i))
    (map residues.of l.fn.state) l.i (map residues.of l.state)
