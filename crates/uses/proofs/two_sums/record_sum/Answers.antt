use Rattle.std.proofs.{Common.ap, lemmas.Result.err_from_is_err_and}
use Rattle.p3_challenger.specs.{Steps.algebra_of, Rounds.steps_of_rounds}
use Rattle.p3_sumcheck.specs.{DeclaringLaws.only-memory, Sumchecks.round_steps}
use Rattle.uses.{specs.TwoSums.sum_step, proofs.RecordSums.{on-both, viable-then, viable-taken}}
use Rattle.uses.proofs.two_sums.record_sum.Goals as goal

pub returns-clause-only : goal.returns-clause-only
returns-clause-only g c going viable =
    let field = algebra_of g.F.PrimeCharacteristicRing.residues.order g.F.BasedVectorSpace.DIMENSION
    (g.D.DigestHasher.digest_of g.F.AlgebraIdentity.identity) g.F.Named.name_bytes in
    let rounds = steps_of_rounds (round_steps field) c.args.rounds in
    let here = c.in_ok-interact.ensures.ok in
    let still = ap (λ r. r.finished) here.recorded in
    let then = viable-then c.args.recorder.now c.interact.new.self _ (sum_step field) rounds c.algebra-sum.ensures here
    viable in
    on-both _ _ c.declare.result c.declare.ensures.going still (c.declare.ensures.only still then)

pub returns-in_err-interact-clause-only : goal.returns-in_err-interact-clause-only
returns-in_err-interact-clause-only g c going viable =
    let field = algebra_of g.F.PrimeCharacteristicRing.residues.order g.F.BasedVectorSpace.DIMENSION
    (g.D.DigestHasher.digest_of g.F.AlgebraIdentity.identity) g.F.Named.name_bytes in
    let rounds = steps_of_rounds (round_steps field) c.args.rounds in
    let p = err_from_is_err_and c.from_residual.result c.from_residual.ensures.1 in
    rw (p.1, p.2)
    (only-memory c.args.recorder.now c.interact.new.self _ _ going
    (viable-taken c.args.recorder.now.steps _ (sum_step field) rounds c.algebra-sum.ensures viable)
    c.in_err-interact.ensures.err)
