use Rattle.std.proofs.Common.{◌≡◌, [], length}
use Rattle.p3_multi_field.proofs.Pairs.{pair_over}
use Rattle.p3_multi_field.specs.{MultiFieldCalls.{words_absorbed, blocks}, MultiFieldState.digest_observed}
use Rattle.p3_multi_field.proofs.multi_field_challenger.MultiField32Challenger.push_digest.Given as goal

-- the blocks that are left lead to the same end, and nothing is pending before them
abbrev pub invariant-loop-rest : goal.invariant-loop-rest
invariant-loop-rest g l =
    let pair = pair_over g.F.PrimeCharacteristicRing.residues g.PF.PrimeCharacteristicRing.residues g.PF.FieldBridge in
    let permutation = g.P.CryptographicPermutation.permutation in
    let rate = g.row.RATE in
    (record l.self {
      sponge = words_absorbed pair (permutation l.self.permutation) rate l.self.sponge (blocks rate l.rest);
    }
    ≡ digest_observed pair permutation rate l.fn.self l.fn.words)
    × (l.self.sponge.pending ≡ [])

abbrev pub decreases-loop-rest : goal.decreases-loop-rest
decreases-loop-rest g l = length l.rest
