use Rattle.std.proofs.{Common.{ap, length, arith, refl}, lemmas.Result.err_from_is_err_and}
use Rattle.p3_challenger.specs.Drivers.{proving_of}
use Rattle.p3_sumcheck.proofs.{Folding.folded-half, Over.over}
use Rattle.p3_sumcheck.proofs.Sending.{own_refusal, passes, sends-end, sends-more, sends-none, stops-after, stops-at}
use Rattle.p3_sumcheck.proofs.prover.prove.Goals as goal

pub rounds-init : goal.rounds-init
rounds-init g c =
    let table = c.deref.ensures.value in
    sends-none _ c.args.table.items _ _ c.sums_of_halves-pair.result c.requires.size c.new-point.ensures.items
    (rw table at c.sums_of_halves-pair.ensures.first) (rw table at c.sums_of_halves-pair.ensures.second)

pub rounds-preserved : goal.rounds-preserved
rounds-preserved g c =
    sends-more _ _ _ _ _ _ _ _ c.rounds.invariant (omega (arith, c.rounds-test.true, c.len.ensures))
    c.in_ok-challenge.challenge c.in_ok-challenge.ensures.ok _ _ c.fold-pair.result c.fold-pair.ensures.folded
    c.fold-pair.ensures.first c.fold-pair.ensures.second c.in_ok-push.ensures.items

pub rounds-smaller : goal.rounds-smaller
rounds-smaller g c =
    let half = folded-half g.F.PrimeCharacteristicRing.residues c.in_ok-challenge.challenge c.rounds.table.items in
    omega (arith, half, c.rounds-test.true, c.len.ensures, ap length c.fold-pair.ensures.folded)

pub returns-in_err-challenge-clause-err : goal.returns-in_err-challenge-clause-err
returns-in_err-challenge-clause-err g c =
    let p = err_from_is_err_and c.from_residual.result c.from_residual.ensures.1 in
    rw (p.1, p.2)
    (stops-at _ _ _ _ _ _ _ _ c.rounds.invariant (omega (arith, c.rounds-test.true, c.len.ensures)) _
    c.in_err-challenge.ensures.err)

pub returns-in_err-push-clause-err : goal.returns-in_err-push-clause-err
returns-in_err-push-clause-err g c =
    let p = err_from_is_err_and c.from_residual-in_err-push.result c.from_residual-in_err-push.ensures.1 in
    rw (p.1, p.2)
    (stops-after _ _ _ _ _ _ _ _ c.rounds.invariant (omega (arith, c.rounds-test.true, c.len.ensures))
    c.in_ok-challenge.challenge c.in_ok-challenge.ensures.ok _ refl)

pub returns-clause-ok : goal.returns-clause-ok
returns-clause-ok g c =
    sends-end _ _ _ _ _ _ _ c.index.result.now c.rounds.invariant (omega (arith, c.rounds-test.false, c.len.ensures))
    c.index.ensures

pub returns-in_err-challenge-clause-only : goal.returns-in_err-challenge-clause-only
returns-in_err-challenge-clause-only g c n size next =
    let p = err_from_is_err_and c.from_residual.result c.from_residual.ensures.1 in
    rw (p.1, p.2)
    (own_refusal _ n _ _ _ _ size next
    (stops-at _ _ _ _ _ _ _ _ c.rounds.invariant (omega (arith, c.rounds-test.true, c.len.ensures)) _
    c.in_err-challenge.ensures.err))

pub returns-clause-only : goal.returns-clause-only
returns-clause-only g c n size next =
    let m = over g.F.PrimeCharacteristicRing.residues g.F.BasedVectorSpace.DIMENSION
    (g.D.DigestHasher.digest_of g.F.AlgebraIdentity.identity) g.F.Named.name_bytes g.Cdc.Codec.observation
    g.Cdc.Codec.sampling g.Cdc.Codec.encoding in
    let before = proving_of g.C.Sponge.state c.args.prover.now in
    let after = proving_of g.C.Sponge.state c.rounds.prover in
    passes m c.args.table.items c.rounds.point.items c.index.result.now n before after size
    (sends-end m c.args.table.items before after c.rounds.point.items c.rounds.table.items c.rounds.pair
    c.index.result.now c.rounds.invariant (omega (arith, c.rounds-test.false, c.len.ensures)) c.index.ensures)
