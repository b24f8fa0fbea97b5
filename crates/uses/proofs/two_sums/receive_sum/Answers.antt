use Rattle.std.proofs.{Common.{◌∙◌, Err, ap, subst}, lemmas.Result.err_from_is_err_and}
use Rattle.p3_challenger.specs.{Steps.algebra_of, Drivers.verifying_of, Reading.AreBytes}
use Rattle.p3_sumcheck.specs.{ReadingLaws.next-reading_fault, Sumchecks.sumcheck_of, Tables.total}
use Rattle.p3_sumcheck.specs.declared.error.SumcheckError.TheVariants.{Transcript}
use Rattle.uses.{specs.TwoSums.sum_step, proofs.ReadSums.{read_sum, sum-passes, sum-read, sum-then, sumcheck-fault}}
use Rattle.uses.proofs.TwoSums.{rounds-bytes, rounds-left, sum-received, sum-refused}
use Rattle.uses.proofs.two_sums.receive_sum.Goals as goal

pub returns-clause-accepts : goal.returns-clause-accepts
returns-clause-accepts g c =
    let m = sumcheck_of g.F.PrimeCharacteristicRing.residues (algebra_of g.F.PrimeCharacteristicRing.residues.order
    g.F.BasedVectorSpace.DIMENSION (g.D.DigestHasher.digest_of g.F.AlgebraIdentity.identity) g.F.Named.name_bytes)
    g.Cdc.Codec.observation g.Cdc.Codec.sampling g.Cdc.Codec.encoding in
    let are = subst AreBytes c.unread-unread.ensures.unread c.unread-unread.ensures.bytes in
    sum-read m (c.read_values_are_encoded.ensures.value (sum_step m.field)) c.args.rounds
    (verifying_of g.C.Sponge.state c.args.verifier.now) (verifying_of g.C.Sponge.state c.next_scalar.new.self)
    (verifying_of g.C.Sponge.state c.verify.new.verifier) _ _ are c.in_ok-next_scalar.ensures c.into_inner-sum.ensures
    c.in_ok-point.ensures.accepts

pub returns-clause-only : goal.returns-clause-only
returns-clause-only g c next =
    let m = sumcheck_of g.F.PrimeCharacteristicRing.residues (algebra_of g.F.PrimeCharacteristicRing.residues.order
    g.F.BasedVectorSpace.DIMENSION (g.D.DigestHasher.digest_of g.F.AlgebraIdentity.identity) g.F.Named.name_bytes)
    g.Cdc.Codec.observation g.Cdc.Codec.sampling g.Cdc.Codec.encoding in
    sum-passes m c.args.rounds (verifying_of g.C.Sponge.state c.args.verifier.now)
    (verifying_of g.C.Sponge.state c.next_scalar.new.self) (verifying_of g.C.Sponge.state c.verify.new.verifier) _
    c.in_ok-next_scalar.ensures c.in_ok-point.ensures.passed

pub returns-in_err-next_scalar-clause-only : goal.returns-in_err-next_scalar-clause-only
returns-in_err-next_scalar-clause-only g c next =
    let m = sumcheck_of g.F.PrimeCharacteristicRing.residues (algebra_of g.F.PrimeCharacteristicRing.residues.order
    g.F.BasedVectorSpace.DIMENSION (g.D.DigestHasher.digest_of g.F.AlgebraIdentity.identity) g.F.Named.name_bytes)
    g.Cdc.Codec.observation g.Cdc.Codec.sampling g.Cdc.Codec.encoding in
    let e = err_from_is_err_and c.from_residual.result c.from_residual.ensures.1 in
    rw (e.1, e.2)
    (next-reading_fault (read_sum m) (verifying_of g.C.Sponge.state c.args.verifier.now)
    (verifying_of g.C.Sponge.state c.next_scalar.new.self) _ next.0 c.in_err-next_scalar.ensures)

pub returns-in_err-point-clause-only : goal.returns-in_err-point-clause-only
returns-in_err-point-clause-only g c next =
    let m = sumcheck_of g.F.PrimeCharacteristicRing.residues (algebra_of g.F.PrimeCharacteristicRing.residues.order
    g.F.BasedVectorSpace.DIMENSION (g.D.DigestHasher.digest_of g.F.AlgebraIdentity.identity) g.F.Named.name_bytes)
    g.Cdc.Codec.observation g.Cdc.Codec.sampling g.Cdc.Codec.encoding in
    let e = err_from_is_err_and c.from_residual-in_err-point.result c.from_residual-in_err-point.ensures.1 in
    rw (e.1, e.2)
    (sumcheck-fault m _ c.args.rounds (verifying_of g.C.Sponge.state c.next_scalar.new.self)
    (verifying_of g.C.Sponge.state c.verify.new.verifier) _ c.in_err-point.ensures.refuses
    (λ f is. c.in_err-point.ensures.next
    (sum-then m c.args.rounds (verifying_of g.C.Sponge.state c.args.verifier.now)
    (verifying_of g.C.Sponge.state c.next_scalar.new.self) _ next c.in_ok-next_scalar.ensures) f (ap Err is)))

pub returns-clause-complete : goal.returns-clause-complete
returns-clause-complete g c table p q sent rest size it is_sent start =
    let m = sumcheck_of g.F.PrimeCharacteristicRing.residues (algebra_of g.F.PrimeCharacteristicRing.residues.order
    g.F.BasedVectorSpace.DIMENSION (g.D.DigestHasher.digest_of g.F.AlgebraIdentity.identity) g.F.Named.name_bytes)
    g.Cdc.Codec.observation g.Cdc.Codec.sampling g.Cdc.Codec.encoding in
    let first = sum-received m table p q it sent rest is_sent
    (c.sent_value_is_received.ensures.complete (sum_step m.field) (total m.residues table))
    (verifying_of g.C.Sponge.state c.args.verifier.now) (verifying_of g.C.Sponge.state c.next_scalar.new.self) _ start
    c.in_ok-next_scalar.ensures in
    let bytes = rounds-bytes m table p q it sent rest is_sent in
    let sum = c.into_inner-sum.ensures ∙ first.0 in
    let read = c.in_ok-point.ensures.complete table it.point it.value it.here q bytes rest it.rounds size sum
    (rounds-left m table p q it sent rest is_sent) first.1 in
    (record { sum = sum; point = read.0; value = read.1 }, read.2)

pub returns-in_err-next_scalar-clause-complete : goal.returns-in_err-next_scalar-clause-complete
returns-in_err-next_scalar-clause-complete g c table p q sent rest size it is_sent start =
    let m = sumcheck_of g.F.PrimeCharacteristicRing.residues (algebra_of g.F.PrimeCharacteristicRing.residues.order
    g.F.BasedVectorSpace.DIMENSION (g.D.DigestHasher.digest_of g.F.AlgebraIdentity.identity) g.F.Named.name_bytes)
    g.Cdc.Codec.observation g.Cdc.Codec.sampling g.Cdc.Codec.encoding in
    let e = err_from_is_err_and c.from_residual.result c.from_residual.ensures.1 in
    rw (e.1, e.2)
    (ap Transcript (sum-refused m table p q it sent rest is_sent
    (c.only_memory_refuses_sent_values.ensures.value (sum_step m.field) (total m.residues table))
    (verifying_of g.C.Sponge.state c.args.verifier.now) (verifying_of g.C.Sponge.state c.next_scalar.new.self) _ start
    c.in_err-next_scalar.ensures))

pub returns-in_err-point-clause-complete : goal.returns-in_err-point-clause-complete
returns-in_err-point-clause-complete g c table p q sent rest size it is_sent start =
    let m = sumcheck_of g.F.PrimeCharacteristicRing.residues (algebra_of g.F.PrimeCharacteristicRing.residues.order
    g.F.BasedVectorSpace.DIMENSION (g.D.DigestHasher.digest_of g.F.AlgebraIdentity.identity) g.F.Named.name_bytes)
    g.Cdc.Codec.observation g.Cdc.Codec.sampling g.Cdc.Codec.encoding in
    let first = sum-received m table p q it sent rest is_sent
    (c.sent_value_is_received.ensures.complete (sum_step m.field) (total m.residues table))
    (verifying_of g.C.Sponge.state c.args.verifier.now) (verifying_of g.C.Sponge.state c.next_scalar.new.self) _ start
    c.in_ok-next_scalar.ensures in
    let bytes = rounds-bytes m table p q it sent rest is_sent in
    let sum = c.into_inner-sum.ensures ∙ first.0 in
    let e = err_from_is_err_and c.from_residual-in_err-point.result c.from_residual-in_err-point.ensures.1 in
    rw (e.1, e.2)
    (c.in_err-point.ensures.complete table it.point it.value it.here q bytes rest it.rounds size sum
    (rounds-left m table p q it sent rest is_sent) first.1)
