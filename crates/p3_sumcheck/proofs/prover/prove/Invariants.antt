use Rattle.std.proofs.Common.{length}
use Rattle.p3_challenger.specs.Drivers.{proving_of}
use Rattle.p3_sumcheck.proofs.{Over.over, Sending.Sends}
use Rattle.p3_sumcheck.proofs.prover.prove.Given as goal

-- the rounds so far are sent, and this table is left
abbrev pub invariant-rounds : goal.invariant-rounds
invariant-rounds g l =
    let m = over g.F.PrimeCharacteristicRing.residues g.F.BasedVectorSpace.DIMENSION
    (g.D.DigestHasher.digest_of g.F.AlgebraIdentity.identity) g.F.Named.name_bytes g.Cdc.Codec.observation
    g.Cdc.Codec.sampling g.Cdc.Codec.encoding in
    Sends m l.fn.table.items (proving_of g.C.Sponge.state l.initial.prover) l.point.items l.table.items l.pair
    (proving_of g.C.Sponge.state l.prover)

abbrev pub decreases-rounds : goal.decreases-rounds
decreases-rounds g l = length l.table.items
