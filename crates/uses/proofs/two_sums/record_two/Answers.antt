use Rattle.std.proofs.{Common.{◌++◌, append_assoc, subst, sym}, lemmas.Result.err_from_is_err_and}
use Rattle.p3_challenger.specs.{Steps.algebra_of, PatternGrammar.IsViable}
use Rattle.uses.{specs.TwoSums.steps_of_sum, proofs.RecordSums.{viable-front, viable-next}}
use Rattle.uses.proofs.two_sums.record_two.Goals as goal

pub returns-clause-only : goal.returns-clause-only
returns-clause-only g c going viable =
    let field = algebra_of g.F.PrimeCharacteristicRing.residues.order g.F.BasedVectorSpace.DIMENSION
    (g.D.DigestHasher.digest_of g.F.AlgebraIdentity.identity) g.F.Named.name_bytes in
    let steps = steps_of_sum field c.args.rounds in
    let before = c.args.recorder.now.steps in
    let first = viable-front (before ++ steps) steps (subst IsViable (sym (append_assoc before steps steps)) viable) in
    let still = c.in_ok-record_sum.ensures.only going first in
    c.record_sum-2.ensures.only still
    (viable-next before c.record_sum.new.recorder.steps steps steps c.in_ok-record_sum.ensures.steps viable)

pub returns-in_err-record_sum-clause-only : goal.returns-in_err-record_sum-clause-only
returns-in_err-record_sum-clause-only g c going viable =
    let field = algebra_of g.F.PrimeCharacteristicRing.residues.order g.F.BasedVectorSpace.DIMENSION
    (g.D.DigestHasher.digest_of g.F.AlgebraIdentity.identity) g.F.Named.name_bytes in
    let steps = steps_of_sum field c.args.rounds in
    let before = c.args.recorder.now.steps in
    let first = viable-front (before ++ steps) steps (subst IsViable (sym (append_assoc before steps steps)) viable) in
    let p = err_from_is_err_and c.from_residual.result c.from_residual.ensures.1 in
    rw (p.1, p.2) (c.in_err-record_sum.ensures.only going first)
