use Rattle.std.proofs.lemmas.Result.{err_from_is_err_and}
use Rattle.p3_challenger.specs.{Steps.algebra_of, Completeness.IsOwnRefusal, Drivers.proving_of}
use Rattle.p3_sumcheck.specs.Sumchecks.{sumcheck_of}
use Rattle.uses.{specs.TwoSums.steps_of_sum, proofs.TwoSums.{both-passed, first-next, match-then, ok-then, second-next}}
use Rattle.uses.proofs.two_sums.send_two.Goals as goal

pub returns-clause-sent : goal.returns-clause-sent
returns-clause-sent g c =
    let here = proving_of g.C.Sponge.state c.send_sum.new.prover in
    ok-then c.send_sum-2.result
    (λ other. record { here = here; one = c.in_ok-send_sum.ensures.sent; other = other })
    c.send_sum-2.ensures.sent

pub returns-clause-only : goal.returns-clause-only
returns-clause-only g c n one other next =
    let m = sumcheck_of g.F.PrimeCharacteristicRing.residues (algebra_of g.F.PrimeCharacteristicRing.residues.order
    g.F.BasedVectorSpace.DIMENSION (g.D.DigestHasher.digest_of g.F.AlgebraIdentity.identity) g.F.Named.name_bytes)
    g.Cdc.Codec.observation g.Cdc.Codec.sampling g.Cdc.Codec.encoding in
    let start = (proving_of g.C.Sponge.state c.args.prover.now).transcript.playing in
    let here = (proving_of g.C.Sponge.state c.send_sum.new.prover).transcript.playing in
    let end = (proving_of g.C.Sponge.state c.send_sum-2.new.prover).transcript.playing in
    let steps = steps_of_sum m.field n in
    let first = c.in_ok-send_sum.ensures.only n one (first-next steps start here next) in
    match-then IsOwnRefusal c.send_sum-2.result (both-passed steps start here next end first)
    (c.send_sum-2.ensures.only n other (second-next steps start here next first))

pub returns-in_err-send_sum-clause-only : goal.returns-in_err-send_sum-clause-only
returns-in_err-send_sum-clause-only g c n one other next =
    let m = sumcheck_of g.F.PrimeCharacteristicRing.residues (algebra_of g.F.PrimeCharacteristicRing.residues.order
    g.F.BasedVectorSpace.DIMENSION (g.D.DigestHasher.digest_of g.F.AlgebraIdentity.identity) g.F.Named.name_bytes)
    g.Cdc.Codec.observation g.Cdc.Codec.sampling g.Cdc.Codec.encoding in
    let start = (proving_of g.C.Sponge.state c.args.prover.now).transcript.playing in
    let steps = steps_of_sum m.field n in
    let p = err_from_is_err_and c.from_residual.result c.from_residual.ensures.1 in
    rw (p.1, p.2) (c.in_err-send_sum.ensures.only n one (first-next steps start start next))
