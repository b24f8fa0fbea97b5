use Rattle.std.proofs.Common.{map}
use Rattle.p3_goldilocks.specs.GoldilocksResidues.{residues}
use Rattle.p3_poseidon2.proofs.Filling.{Copied}
use Rattle.p3_poseidon2.proofs.unreduced_rounds.numbers_of.Given as goal

abbrev pub invariant-loop-i : goal.invariant-loop-i
invariant-loop-i g l = Copied (residues.of 0) l.elements l.i (map residues.of l.numbers)
