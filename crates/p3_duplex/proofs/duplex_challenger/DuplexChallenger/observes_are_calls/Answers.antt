use Rattle.std.{proofs.Common.◌∙◌, specs.List.flat_map}
use Rattle.p3_duplex.{specs.DuplexStateLaws.fed-flat_map, proofs.Calls.fed-is_calls}
use Rattle.p3_symmetric.specs.Digests.{values_of}
use Rattle.p3_duplex.proofs.duplex_challenger.DuplexChallenger.observes_are_calls.Goals as goal

pub returns-clause-array : goal.returns-clause-array
returns-clause-array g c state xs =
    fed-is_calls g.F.PrimeCharacteristicRing.residues g.P.CryptographicPermutation.permutation g.row.RATE state xs

pub returns-clause-digest : goal.returns-clause-digest
returns-clause-digest g c state digest =
    fed-is_calls g.F.PrimeCharacteristicRing.residues g.P.CryptographicPermutation.permutation g.row.RATE state
    (values_of digest)

pub returns-clause-cap : goal.returns-clause-cap
returns-clause-cap g c state cap =
    let r = g.F.PrimeCharacteristicRing.residues in
    let permute = g.P.CryptographicPermutation.permutation in
    fed-flat_map r permute g.row.RATE (λ root. root) state cap
    ∙ fed-is_calls r permute g.row.RATE state (flat_map (λ root. root) cap)

pub returns-clause-lists : goal.returns-clause-lists
returns-clause-lists g c state lists =
    let r = g.F.PrimeCharacteristicRing.residues in
    let permute = g.P.CryptographicPermutation.permutation in
    fed-flat_map r permute g.row.RATE (λ list. list.items) state lists.items
    ∙ fed-is_calls r permute g.row.RATE state (flat_map (λ list. list.items) lists.items)
