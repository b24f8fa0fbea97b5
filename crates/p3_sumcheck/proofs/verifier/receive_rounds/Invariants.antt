use Rattle.p3_challenger.specs.Drivers.{verifying_of}
use Rattle.p3_sumcheck.{specs.Sumchecks.AcceptsAt, proofs.Over.over}
use Rattle.p3_sumcheck.proofs.verifier.receive_rounds.Given as goal

-- the rounds so far are accepted
abbrev pub invariant-loop-place : goal.invariant-loop-place
invariant-loop-place g l =
    let m = over g.F.PrimeCharacteristicRing.residues g.F.BasedVectorSpace.DIMENSION
    (g.D.DigestHasher.digest_of g.F.AlgebraIdentity.identity) g.F.Named.name_bytes g.Cdc.Codec.observation
    g.Cdc.Codec.sampling g.Cdc.Codec.encoding in
    AcceptsAt m l.fn.claim l.place (verifying_of g.C.Sponge.state l.initial.verifier) l.point.items l.current
    (verifying_of g.C.Sponge.state l.verifier)
