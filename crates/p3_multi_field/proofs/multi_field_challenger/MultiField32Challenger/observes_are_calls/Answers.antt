use Rattle.std.{proofs.Common.{map, ◌∙◌}, specs.List.flat_map}
use Rattle.p3_multi_field.{specs.MultiFieldCalls.{scalar, digest}, proofs.Pairs.pair_over, proofs.Calls.fed-is_calls}
use Rattle.p3_multi_field.specs.MultiFieldStateLaws.{scalars-fed, lists-fed, digests-fed}
use Rattle.p3_multi_field.proofs.multi_field_challenger.MultiField32Challenger.observes_are_calls.Goals as goal

pub returns-clause-array : goal.returns-clause-array
returns-clause-array g c state xs =
    let pair = pair_over g.F.PrimeCharacteristicRing.residues g.PF.PrimeCharacteristicRing.residues g.PF.FieldBridge in
    let permute = g.P.CryptographicPermutation.permutation in
    scalars-fed pair permute g.row.RATE state xs ∙ fed-is_calls pair permute g.row.RATE state (map scalar xs)

pub returns-clause-lists : goal.returns-clause-lists
returns-clause-lists g c state lists =
    let pair = pair_over g.F.PrimeCharacteristicRing.residues g.PF.PrimeCharacteristicRing.residues g.PF.FieldBridge in
    let permute = g.P.CryptographicPermutation.permutation in
    lists-fed pair permute g.row.RATE (λ list. list.items) state lists.items
    ∙ fed-is_calls pair permute g.row.RATE state (flat_map (λ list. map scalar list.items) lists.items)

pub returns-clause-cap : goal.returns-clause-cap
returns-clause-cap g c state cap =
    let pair = pair_over g.F.PrimeCharacteristicRing.residues g.PF.PrimeCharacteristicRing.residues g.PF.FieldBridge in
    let permute = g.P.CryptographicPermutation.permutation in
    digests-fed pair permute g.row.RATE state cap ∙ fed-is_calls pair permute g.row.RATE state (map digest cap)
