use Rattle.std.proofs.Common.{◌≡◌, List, [], get_or, map}
use Rattle.p3_goldilocks.specs.{GoldilocksResidues.residues, declared.goldilocks.Goldilocks.Goldilocks}
use Rattle.p3_poseidon2.specs.Begun.{with_constants}
use Rattle.p3_poseidon2.proofs.Begun.{Begun}
use Rattle.p3_poseidon2.proofs.unreduced_rounds.play_externals.Given as goal

-- the rounds so far, of any cells that the first numbers are with the constants of the first round
abbrev pub invariant-loop-i : goal.invariant-loop-i
invariant-loop-i g l =
    (cells : List Goldilocks)
    → map residues.of l.fn.state ≡ with_constants residues g.row.WIDTH (get_or l.rounds 0 []) cells
    → Begun residues g.row.WIDTH g.row.DEGREE l.rounds l.i (map residues.of l.state) cells
