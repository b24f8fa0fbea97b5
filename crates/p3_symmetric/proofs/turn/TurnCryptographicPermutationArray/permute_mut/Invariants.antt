use Rattle.std.proofs.Common.{◌≡◌, ℕ, ◌<◌, length, slice_index_or}
use Rattle.p3_symmetric.specs.Turn.{turned_cell}
use Rattle.p3_symmetric.proofs.turn.TurnCryptographicPermutationArray.permute_mut.Given as goal

-- each cell so far is the turned one
abbrev pub invariant-loop-i : goal.invariant-loop-i
invariant-loop-i g l =
    let r = g.F.PrimeCharacteristicRing.residues in
    (length l.state ≡ g.row.WIDTH)
    × ((j : ℕ) → j < l.i → slice_index_or l.state j (r.of 0) ≡ turned_cell r g.row.K g.row.WIDTH l.old j)
