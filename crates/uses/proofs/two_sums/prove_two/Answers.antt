use Rattle.std.proofs.{Common.{◌∙◌, ap}, lemmas.Result.err_from_is_err_and}
use Rattle.p3_challenger.specs.{Steps.algebra_of, Drivers.proving_of, SeparatorSeed.pattern_of}
use Rattle.p3_sumcheck.specs.Sumchecks.{sumcheck_of}
use Rattle.uses.{specs.TwoSums.steps_of_two, proofs.TwoSums.{all-next, proves-two, sent-ends, start-own}}
use Rattle.uses.proofs.two_sums.prove_two.Goals as goal

pub returns-clause-sent : goal.returns-clause-sent
returns-clause-sent g c =
    let m = sumcheck_of g.F.PrimeCharacteristicRing.residues (algebra_of g.F.PrimeCharacteristicRing.residues.order
    g.F.BasedVectorSpace.DIMENSION (g.D.DigestHasher.digest_of g.F.AlgebraIdentity.identity) g.F.Named.name_bytes)
    g.Cdc.Codec.observation g.Cdc.Codec.sampling g.Cdc.Codec.encoding in
    proves-two m c.args.first.items c.args.second.items _ (pattern_of c.args.separator.now)
    (proving_of g.C.Sponge.state c.in_ok-prover.prover) (proving_of g.C.Sponge.state c.send_two-sent.new.prover)
    (λ proof. proof.items) c.send_two-sent.result c.finalize.result c.and.result c.and.ensures
    c.in_ok-prover.ensures.ok c.send_two-sent.ensures.sent c.finalize.ensures.ok

pub returns-clause-only : goal.returns-clause-only
returns-clause-only g c n first second has =
    let m = sumcheck_of g.F.PrimeCharacteristicRing.residues (algebra_of g.F.PrimeCharacteristicRing.residues.order
    g.F.BasedVectorSpace.DIMENSION (g.D.DigestHasher.digest_of g.F.AlgebraIdentity.identity) g.F.Named.name_bytes)
    g.Cdc.Codec.observation g.Cdc.Codec.sampling g.Cdc.Codec.encoding in
    let start = (proving_of g.C.Sponge.state c.in_ok-prover.prover).transcript.playing in
    let end = (proving_of g.C.Sponge.state c.send_two-sent.new.prover).transcript.playing in
    let at = ap (λ p. p.transcript.playing) c.in_ok-prover.ensures.ok in
    let steps = ap (λ p. p.pattern.steps) at ∙ has in
    let position = ap (λ p. p.position) at in
    let going = ap (λ p. p.finished) at in
    sent-ends (steps_of_two m.field n) start end c.send_two-sent.result c.finalize.result c.and.result c.and.ensures
    steps position going
    (c.send_two-sent.ensures.only n first second (all-next (steps_of_two m.field n) start steps position going))
    c.finalize.ensures.only

pub returns-in_err-prover-clause-only : goal.returns-in_err-prover-clause-only
returns-in_err-prover-clause-only g c n first second has =
    let p = err_from_is_err_and c.from_residual.result c.from_residual.ensures.1 in
    rw (p.1, p.2) (start-own _ _ c.in_err-prover.ensures.err)
