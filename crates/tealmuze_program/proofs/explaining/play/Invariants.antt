use Rattle.std.proofs.Common.{◌≡◌, ◌++◌, None, flat_map, length}
use Rattle.tealmuze_program.proofs.explaining.play.Given as goal

-- the bytes that the steps read so far, and those that they left, are the proof; each step before this one has its line
abbrev pub invariant-loop-position : goal.invariant-loop-position
invariant-loop-position g l =
    (goal.iterator-loop-position g).can_next l.carried ×
    (goal.iterator-loop-position g).is_finite l.carried ×
    (flat_map (λ row. row.read.now) l.explained.rows.items ++ l.explained.unread.now ≡ l.proof) ×
    (length l.explained.rows.items ≡ l.position) ×
    (l.explained.refused ≡ None)
