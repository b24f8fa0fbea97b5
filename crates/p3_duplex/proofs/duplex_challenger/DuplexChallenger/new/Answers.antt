use Rattle.std.proofs.Common.{replicate, arith}
use Rattle.p3_sponge.specs.SpongeStepLaws.{emptied-fits}
use Rattle.p3_duplex.specs.DuplexCalls.{duplex}
use Rattle.p3_duplex.proofs.ReadBack.{reads_back, reads_back_to_digest, reads_back_or_collides}
use Rattle.p3_duplex.proofs.duplex_challenger.DuplexChallenger.new.Goals as goal

pub returns-clause-reads_back : goal.returns-clause-reads_back
returns-clause-reads_back g c below =
    let r = g.F.PrimeCharacteristicRing.residues in
    let permute = g.P.CryptographicPermutation.permutation c.args.permutation in
    let cells = replicate g.row.WIDTH c.zero.result in
    reads_back r g.met.F.PrimeCharacteristicRing.are_residues permute g.row.RATE below c.requires.rate _
    (emptied-fits (duplex r permute g.row.RATE) c.requires.rate c.requires.rate cells 0 (omega arith))

pub returns-clause-to_digest : goal.returns-clause-to_digest
returns-clause-to_digest g c below =
    let r = g.F.PrimeCharacteristicRing.residues in
    let permute = g.P.CryptographicPermutation.permutation c.args.permutation in
    let cells = replicate g.row.WIDTH c.zero.result in
    reads_back_to_digest r g.met.F.PrimeCharacteristicRing.are_residues permute g.row.RATE below c.requires.rate _
    (emptied-fits (duplex r permute g.row.RATE) c.requires.rate c.requires.rate cells 0 (omega arith))

pub returns-clause-or_collides : goal.returns-clause-or_collides
returns-clause-or_collides g c below =
    let r = g.F.PrimeCharacteristicRing.residues in
    let permute = g.P.CryptographicPermutation.permutation c.args.permutation in
    let cells = replicate g.row.WIDTH c.zero.result in
    reads_back_or_collides r g.met.F.PrimeCharacteristicRing.are_residues permute g.row.RATE below c.requires.rate _
    (emptied-fits (duplex r permute g.row.RATE) c.requires.rate c.requires.rate cells 0 (omega arith))
