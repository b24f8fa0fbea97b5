use Rattle.std.proofs.{Common.{◌∷◌, [], inr, refl}, lemmas.Result.err_from_is_err_and}
use Rattle.p3_challenger.specs.Drivers.{proving_of}
use Rattle.p3_sumcheck.{specs.Sumchecks.sent_pair, proofs.Over.over, proofs.Sending.{round-written, writes-given}}
use Rattle.p3_sumcheck.proofs.prover.send_round.Goals as goal

pub returns-clause-ok : goal.returns-clause-ok
returns-clause-ok g c =
    let m = over g.F.PrimeCharacteristicRing.residues g.F.BasedVectorSpace.DIMENSION
    (g.D.DigestHasher.digest_of g.F.AlgebraIdentity.identity) g.F.Named.name_bytes g.Cdc.Codec.observation
    g.Cdc.Codec.sampling g.Cdc.Codec.encoding in
    round-written m (proving_of g.C.Sponge.state c.args.prover.now) (proving_of g.C.Sponge.state c.add_scalars.new.self)
    (proving_of g.C.Sponge.state c.challenge_scalar.new.self) c.args.pair.0 c.args.pair.1 _ _ _
    c.in_ok-add_scalars.ensures.exact c.in_ok-challenge.ensures.0 c.in_ok-challenge.ensures.1 c.into_inner.ensures

pub returns-in_err-challenge-clause-err : goal.returns-in_err-challenge-clause-err
returns-in_err-challenge-clause-err g c =
    let m = over g.F.PrimeCharacteristicRing.residues g.F.BasedVectorSpace.DIMENSION
    (g.D.DigestHasher.digest_of g.F.AlgebraIdentity.identity) g.F.Named.name_bytes g.Cdc.Codec.observation
    g.Cdc.Codec.sampling g.Cdc.Codec.encoding in
    let pair = c.args.pair.0 ∷ c.args.pair.1 ∷ [] in
    let here = proving_of g.C.Sponge.state c.add_scalars.new.self in
    let p = err_from_is_err_and c.from_residual-in_err-challenge.result c.from_residual-in_err-challenge.ensures.1 in
    rw (p.1, p.2)
    (inr (
      here,
      writes-given (sent_pair m pair) _ pair (proving_of g.C.Sponge.state c.args.prover.now) here refl
          c.in_ok-add_scalars.ensures.exact,
      c.in_err-challenge.ensures.0,
      c.in_err-challenge.ensures.1,
    ))
