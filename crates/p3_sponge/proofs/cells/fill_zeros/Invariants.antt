use Rattle.std.proofs.Common.{◌≡◌, ◌++◌, drop, replicate}
use Rattle.p3_sponge.proofs.cells.fill_zeros.Given as goal

abbrev pub invariant-loop-i : goal.invariant-loop-i
invariant-loop-i g l = l.cells ≡ replicate l.i (g.F.PrimeCharacteristicRing.residues.of 0) ++ drop l.i l.initial.cells
