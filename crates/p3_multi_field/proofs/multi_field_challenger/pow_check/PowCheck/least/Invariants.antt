use Rattle.std.proofs.Common.{◌≡◌, ◌+◌, ◌*◌}
use Rattle.p3_multi_field.proofs.{Pairs.pair_over, Candidates.{value_of, cells_of, NoneBelow}}
use Rattle.p3_multi_field.proofs.multi_field_challenger.pow_check.PowCheck.least.Given as goal

-- the cells are those of the next two candidates, the value is that of the later one, and no candidate so far passes
abbrev pub invariant-pairs : goal.invariant-pairs
invariant-pairs g l =
    let inner = g.F.PrimeCharacteristicRing.residues in
    let outer = g.PF.PrimeCharacteristicRing.residues in
    let pair = pair_over inner outer g.PF.FieldBridge in
    let permute = g.P.CryptographicPermutation.permutation in
    (l.value ≡ value_of inner outer pair.bits l.self.before (2 * l.pair + 1))
    × (l.even ≡ cells_of pair permute g.row.RATE l.self l.bits (2 * l.pair))
    × (l.odd ≡ cells_of pair permute g.row.RATE l.self l.bits (2 * l.pair + 1))
    × NoneBelow pair permute g.row.RATE l.self l.bits (2 * l.pair)
