use Rattle.std.proofs.{Common.{inr, sym, ap}, lemmas.Result.err_from_is_err_and}
use Rattle.p3_challenger.specs.{Steps.algebra_of, Drivers.verifying_of, Observation.observed_all}
use Rattle.p3_challenger.specs.SeparatorSeed.{pattern_of, seed_of_separator}
use Rattle.p3_sumcheck.specs.{Sumchecks.sumcheck_of, declared.error.SumcheckError.TheVariants.Transcript}
use Rattle.uses.{specs.TwoSums.{begun, steps_of_two}, proofs.TwoSums.{reads-end, start-memory, start-own}}
use Rattle.uses.proofs.ReadSums.{begun-next, end-fault, passed-played, two-accepted}
use Rattle.uses.proofs.two_sums.verify_two.Goals as goal

pub returns-clause-accepts : goal.returns-clause-accepts
returns-clause-accepts g c =
    let m = sumcheck_of g.F.PrimeCharacteristicRing.residues (algebra_of g.F.PrimeCharacteristicRing.residues.order
    g.F.BasedVectorSpace.DIMENSION (g.D.DigestHasher.digest_of g.F.AlgebraIdentity.identity) g.F.Named.name_bytes)
    g.Cdc.Codec.observation g.Cdc.Codec.sampling g.Cdc.Codec.encoding in
    let seed = seed_of_separator g.D.DigestHasher.digest_of c.args.separator.now in
    let challenger = observed_all g.C.CanObserve.observation.observed (g.C.Sponge.state c.args.challenger)
    (g.U.Unit.items seed) in
    let pattern = pattern_of c.args.separator.now in
    two-accepted m c.args.rounds _ _ challenger pattern c.args.proof.now _ _ c.in_ok-verifier.ensures.ok
    c.in_ok-read.ensures.accepts c.in_ok-end.ensures.ok

pub returns-in_err-verifier-clause-only : goal.returns-in_err-verifier-clause-only
returns-in_err-verifier-clause-only g c has =
    let p = err_from_is_err_and c.from_residual.result c.from_residual.ensures.1 in
    rw (p.1, p.2) (inr (start-own _ _ c.in_err-verifier.ensures.err))

pub returns-in_err-read-clause-only : goal.returns-in_err-read-clause-only
returns-in_err-read-clause-only g c has =
    let m = sumcheck_of g.F.PrimeCharacteristicRing.residues (algebra_of g.F.PrimeCharacteristicRing.residues.order
    g.F.BasedVectorSpace.DIMENSION (g.D.DigestHasher.digest_of g.F.AlgebraIdentity.identity) g.F.Named.name_bytes)
    g.Cdc.Codec.observation g.Cdc.Codec.sampling g.Cdc.Codec.encoding in
    let seed = seed_of_separator g.D.DigestHasher.digest_of c.args.separator.now in
    let challenger = observed_all g.C.CanObserve.observation.observed (g.C.Sponge.state c.args.challenger)
    (g.U.Unit.items seed) in
    let pattern = pattern_of c.args.separator.now in
    let steps = steps_of_two m.field c.args.rounds in
    let next = begun-next steps challenger pattern c.args.proof.now _ c.in_ok-verifier.ensures.ok has in
    let p = err_from_is_err_and c.from_residual-in_err-read.result c.from_residual-in_err-read.ensures.1 in
    rw (p.1, p.2) (c.in_err-read.ensures.only next)

pub returns-in_err-end-clause-only : goal.returns-in_err-end-clause-only
returns-in_err-end-clause-only g c has =
    let m = sumcheck_of g.F.PrimeCharacteristicRing.residues (algebra_of g.F.PrimeCharacteristicRing.residues.order
    g.F.BasedVectorSpace.DIMENSION (g.D.DigestHasher.digest_of g.F.AlgebraIdentity.identity) g.F.Named.name_bytes)
    g.Cdc.Codec.observation g.Cdc.Codec.sampling g.Cdc.Codec.encoding in
    let seed = seed_of_separator g.D.DigestHasher.digest_of c.args.separator.now in
    let challenger = observed_all g.C.CanObserve.observation.observed (g.C.Sponge.state c.args.challenger)
    (g.U.Unit.items seed) in
    let pattern = pattern_of c.args.separator.now in
    let steps = steps_of_two m.field c.args.rounds in
    let next = begun-next steps challenger pattern c.args.proof.now _ c.in_ok-verifier.ensures.ok has in
    let end = verifying_of g.C.Sponge.state c.receive_two-received.new.verifier in
    let played = passed-played steps challenger pattern c.args.proof.now _ c.in_ok-verifier.ensures.ok has end
    (c.in_ok-read.ensures.only next) in
    let p = err_from_is_err_and c.from_residual-in_err-end.result c.from_residual-in_err-end.ensures.1 in
    rw (p.1, p.2) (end-fault end _ played c.in_err-end.ensures.err)

pub returns-clause-complete : goal.returns-clause-complete
returns-clause-complete g c short first second first_size second_size it =
    let m = sumcheck_of g.F.PrimeCharacteristicRing.residues (algebra_of g.F.PrimeCharacteristicRing.residues.order
    g.F.BasedVectorSpace.DIMENSION (g.D.DigestHasher.digest_of g.F.AlgebraIdentity.identity) g.F.Named.name_bytes)
    g.Cdc.Codec.observation g.Cdc.Codec.sampling g.Cdc.Codec.encoding in
    let seed = seed_of_separator g.D.DigestHasher.digest_of c.args.separator.now in
    let start = begun (observed_all g.C.CanObserve.observation.observed (g.C.Sponge.state c.args.challenger)
    (g.U.Unit.items seed)) (pattern_of c.args.separator.now) in
    (c.in_ok-read.ensures.complete first second start it.end c.args.proof.now first_size second_size it.sends
    (sym it.written) c.in_ok-verifier.ensures.ok).0

pub returns-in_err-verifier-clause-complete : goal.returns-in_err-verifier-clause-complete
returns-in_err-verifier-clause-complete g c short first second first_size second_size it =
    let p = err_from_is_err_and c.from_residual.result c.from_residual.ensures.1 in
    rw (p.1, p.2) (ap Transcript (start-memory _ _ short c.in_err-verifier.ensures.err))

pub returns-in_err-read-clause-complete : goal.returns-in_err-read-clause-complete
returns-in_err-read-clause-complete g c short first second first_size second_size it =
    let m = sumcheck_of g.F.PrimeCharacteristicRing.residues (algebra_of g.F.PrimeCharacteristicRing.residues.order
    g.F.BasedVectorSpace.DIMENSION (g.D.DigestHasher.digest_of g.F.AlgebraIdentity.identity) g.F.Named.name_bytes)
    g.Cdc.Codec.observation g.Cdc.Codec.sampling g.Cdc.Codec.encoding in
    let seed = seed_of_separator g.D.DigestHasher.digest_of c.args.separator.now in
    let start = begun (observed_all g.C.CanObserve.observation.observed (g.C.Sponge.state c.args.challenger)
    (g.U.Unit.items seed)) (pattern_of c.args.separator.now) in
    let p = err_from_is_err_and c.from_residual-in_err-read.result c.from_residual-in_err-read.ensures.1 in
    rw (p.1, p.2)
    (c.in_err-read.ensures.complete first second start it.end c.args.proof.now first_size second_size it.sends
    (sym it.written) c.in_ok-verifier.ensures.ok)

pub returns-in_err-end-clause-complete : goal.returns-in_err-end-clause-complete
returns-in_err-end-clause-complete g c short first second first_size second_size it =
    let m = sumcheck_of g.F.PrimeCharacteristicRing.residues (algebra_of g.F.PrimeCharacteristicRing.residues.order
    g.F.BasedVectorSpace.DIMENSION (g.D.DigestHasher.digest_of g.F.AlgebraIdentity.identity) g.F.Named.name_bytes)
    g.Cdc.Codec.observation g.Cdc.Codec.sampling g.Cdc.Codec.encoding in
    let seed = seed_of_separator g.D.DigestHasher.digest_of c.args.separator.now in
    let start = begun (observed_all g.C.CanObserve.observation.observed (g.C.Sponge.state c.args.challenger)
    (g.U.Unit.items seed)) (pattern_of c.args.separator.now) in
    let read = c.in_ok-read.ensures.complete first second start it.end c.args.proof.now first_size second_size it.sends
    (sym it.written) c.in_ok-verifier.ensures.ok in
    let ended = c.in_err-end.ensures.only (reads-end _ it.end read.1 it.played) in
    absurd (cc)
