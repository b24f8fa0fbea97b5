use Rattle.std.proofs.Common.{◌≡◌, drop, map}
use Rattle.p3_goldilocks.specs.GoldilocksResidues.{residues}
use Rattle.p3_poseidon2.specs.Poseidon2.{internal_rounds}
use Rattle.p3_poseidon2.proofs.unreduced_rounds.play_internals.Given as goal

-- the rounds that are left make of the cells what all of them make of the first ones
abbrev pub invariant-loop-constant : goal.invariant-loop-constant
invariant-loop-constant g l =
    internal_rounds residues g.row.WIDTH g.row.DEGREE l.diagonal (drop l.constant-index l.rounds) (map residues.of l.state)
    ≡ internal_rounds residues g.row.WIDTH g.row.DEGREE l.diagonal l.rounds (map residues.of l.initial.state)
