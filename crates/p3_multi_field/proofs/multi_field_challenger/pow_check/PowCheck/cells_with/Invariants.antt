use Rattle.std.proofs.Common.{◌≡◌, ℕ, ◌<◌, length, slice_index_or, slice_set}
use Rattle.p3_multi_field.proofs.multi_field_challenger.pow_check.PowCheck.cells_with.Given as goal

-- each cell so far is as with the value
abbrev pub invariant-cells : goal.invariant-cells
invariant-cells g l =
    let zero = g.PF.PrimeCharacteristicRing.residues.of 0 in
    (length l.cells ≡ g.row.WIDTH)
    × ((j : ℕ) → j < l.i
    → slice_index_or l.cells j zero ≡ slice_index_or (slice_set l.self.cells l.self.place l.value) j zero)
    × (length l.self.cells ≡ g.row.WIDTH)
