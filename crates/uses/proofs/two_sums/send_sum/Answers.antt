use Rattle.std.proofs.{Common.{◌∙◌, ap}, lemmas.Result.err_from_is_err_and}
use Rattle.p3_challenger.specs.{Steps.algebra_of, Drivers.proving_of}
use Rattle.p3_sumcheck.specs.{Sumchecks.sumcheck_of, Tables.total}
use Rattle.uses.proofs.TwoSums.{rounds-next, sum-own, sum-passed, sum-sent}
use Rattle.uses.proofs.two_sums.send_sum.Goals as goal

pub returns-clause-sent : goal.returns-clause-sent
returns-clause-sent g c =
    let m = sumcheck_of g.F.PrimeCharacteristicRing.residues (algebra_of g.F.PrimeCharacteristicRing.residues.order
    g.F.BasedVectorSpace.DIMENSION (g.D.DigestHasher.digest_of g.F.AlgebraIdentity.identity) g.F.Named.name_bytes)
    g.Cdc.Codec.observation g.Cdc.Codec.sampling g.Cdc.Codec.encoding in
    let is = c.sum-claim.ensures ∙ ap (total m.residues) c.deref.ensures.value in
    record {
      point = c.in_ok-prove.field-0.0.items;
      value = c.in_ok-prove.field-0.1;
      here = proving_of g.C.Sponge.state c.add_scalar.new.self;
      sum = sum-sent m _ _ _ (proving_of g.C.Sponge.state c.args.prover.now)
          (proving_of g.C.Sponge.state c.add_scalar.new.self) c.in_ok-add_scalar.ensures is;
      rounds = c.in_ok-prove.ensures.ok;
    }

pub returns-clause-only : goal.returns-clause-only
returns-clause-only g c n size next =
    let m = sumcheck_of g.F.PrimeCharacteristicRing.residues (algebra_of g.F.PrimeCharacteristicRing.residues.order
    g.F.BasedVectorSpace.DIMENSION (g.D.DigestHasher.digest_of g.F.AlgebraIdentity.identity) g.F.Named.name_bytes)
    g.Cdc.Codec.observation g.Cdc.Codec.sampling g.Cdc.Codec.encoding in
    let before = proving_of g.C.Sponge.state c.args.prover.now in
    let here = proving_of g.C.Sponge.state c.add_scalar.new.self in
    sum-passed m n _ _ before here (proving_of g.C.Sponge.state c.prove.new.prover) c.in_ok-add_scalar.ensures
    (c.in_ok-prove.ensures.only n size (rounds-next m n _ _ before here next c.in_ok-add_scalar.ensures)).1

pub returns-in_err-add_scalar-clause-only : goal.returns-in_err-add_scalar-clause-only
returns-in_err-add_scalar-clause-only g c n size next =
    let m = sumcheck_of g.F.PrimeCharacteristicRing.residues (algebra_of g.F.PrimeCharacteristicRing.residues.order
    g.F.BasedVectorSpace.DIMENSION (g.D.DigestHasher.digest_of g.F.AlgebraIdentity.identity) g.F.Named.name_bytes)
    g.Cdc.Codec.observation g.Cdc.Codec.sampling g.Cdc.Codec.encoding in
    let p = err_from_is_err_and c.from_residual.result c.from_residual.ensures.1 in
    rw (p.1, p.2)
    (sum-own m n _ (proving_of g.C.Sponge.state c.args.prover.now)
    (proving_of g.C.Sponge.state c.add_scalar.new.self) _ next c.in_err-add_scalar.ensures)

pub returns-in_err-prove-clause-only : goal.returns-in_err-prove-clause-only
returns-in_err-prove-clause-only g c n size next =
    let m = sumcheck_of g.F.PrimeCharacteristicRing.residues (algebra_of g.F.PrimeCharacteristicRing.residues.order
    g.F.BasedVectorSpace.DIMENSION (g.D.DigestHasher.digest_of g.F.AlgebraIdentity.identity) g.F.Named.name_bytes)
    g.Cdc.Codec.observation g.Cdc.Codec.sampling g.Cdc.Codec.encoding in
    let before = proving_of g.C.Sponge.state c.args.prover.now in
    let here = proving_of g.C.Sponge.state c.add_scalar.new.self in
    let p = err_from_is_err_and c.from_residual-in_err-prove.result c.from_residual-in_err-prove.ensures.1 in
    rw (p.1, p.2)
    (c.in_err-prove.ensures.only n size (rounds-next m n _ _ before here next c.in_ok-add_scalar.ensures))
