use Rattle.std.proofs.{Common.{◌∙◌, [], append-nil, ap, sym}, lemmas.Result.err_from_is_err_and}
use Rattle.p3_challenger.specs.{Steps.algebra_of, Drivers.verifying_of}
use Rattle.p3_sumcheck.specs.Sumchecks.{sumcheck_of}
use Rattle.uses.{specs.TwoSums.{steps_of_sum, with_bytes}, proofs.TwoSums.{two-split, both-passed, first-bytes}}
use Rattle.uses.proofs.TwoSums.{first-left, first-next, second-bytes, second-left, second-next}
use Rattle.uses.proofs.two_sums.receive_two.Goals as goal

pub returns-clause-accepts : goal.returns-clause-accepts
returns-clause-accepts g c =
    record { here = _; first = c.in_ok-first.ensures.accepts; second = c.in_ok-second.ensures.accepts }

pub returns-clause-only : goal.returns-clause-only
returns-clause-only g c next =
    let m = sumcheck_of g.F.PrimeCharacteristicRing.residues (algebra_of g.F.PrimeCharacteristicRing.residues.order
    g.F.BasedVectorSpace.DIMENSION (g.D.DigestHasher.digest_of g.F.AlgebraIdentity.identity) g.F.Named.name_bytes)
    g.Cdc.Codec.observation g.Cdc.Codec.sampling g.Cdc.Codec.encoding in
    let start = (verifying_of g.C.Sponge.state c.args.verifier.now).transcript.playing in
    let steps = steps_of_sum m.field c.args.rounds in
    let one = c.in_ok-first.ensures.only (first-next steps start start next) in
    let other = c.in_ok-second.ensures.only (second-next steps start _ next one) in
    both-passed steps start _ next _ one other

pub returns-in_err-first-clause-only : goal.returns-in_err-first-clause-only
returns-in_err-first-clause-only g c next =
    let m = sumcheck_of g.F.PrimeCharacteristicRing.residues (algebra_of g.F.PrimeCharacteristicRing.residues.order
    g.F.BasedVectorSpace.DIMENSION (g.D.DigestHasher.digest_of g.F.AlgebraIdentity.identity) g.F.Named.name_bytes)
    g.Cdc.Codec.observation g.Cdc.Codec.sampling g.Cdc.Codec.encoding in
    let start = (verifying_of g.C.Sponge.state c.args.verifier.now).transcript.playing in
    let steps = steps_of_sum m.field c.args.rounds in
    let e = err_from_is_err_and c.from_residual.result c.from_residual.ensures.1 in
    rw (e.1, e.2) (c.in_err-first.ensures.only (first-next steps start start next))

pub returns-in_err-second-clause-only : goal.returns-in_err-second-clause-only
returns-in_err-second-clause-only g c next =
    let m = sumcheck_of g.F.PrimeCharacteristicRing.residues (algebra_of g.F.PrimeCharacteristicRing.residues.order
    g.F.BasedVectorSpace.DIMENSION (g.D.DigestHasher.digest_of g.F.AlgebraIdentity.identity) g.F.Named.name_bytes)
    g.Cdc.Codec.observation g.Cdc.Codec.sampling g.Cdc.Codec.encoding in
    let start = (verifying_of g.C.Sponge.state c.args.verifier.now).transcript.playing in
    let steps = steps_of_sum m.field c.args.rounds in
    let one = c.in_ok-first.ensures.only (first-next steps start start next) in
    let e = err_from_is_err_and c.from_residual-in_err-second.result c.from_residual-in_err-second.ensures.1 in
    rw (e.1, e.2) (c.in_err-second.ensures.only (second-next steps start _ next one))

pub returns-clause-complete : goal.returns-clause-complete
returns-clause-complete g c first second p q sent first_size second_size it is_sent start =
    let m = sumcheck_of g.F.PrimeCharacteristicRing.residues (algebra_of g.F.PrimeCharacteristicRing.residues.order
    g.F.BasedVectorSpace.DIMENSION (g.D.DigestHasher.digest_of g.F.AlgebraIdentity.identity) g.F.Named.name_bytes)
    g.Cdc.Codec.observation g.Cdc.Codec.sampling g.Cdc.Codec.encoding in
    let one = first-bytes m first second p q it sent is_sent in
    let other = second-bytes m first second p q it sent is_sent in
    let begins = start ∙ ap (with_bytes p) (two-split m first second p q it sent is_sent) in
    let read = c.in_ok-first.ensures.complete first p it.here one other first_size it.one
    (first-left m first second p q it sent is_sent) begins in
    let then = read.1 ∙ ap (with_bytes it.here) (sym (append-nil other)) in
    let last = c.in_ok-second.ensures.complete second it.here q other [] second_size it.other
    (second-left m first second p q it sent is_sent) then in
    (record { one_is = read.0; other_is = last.0 }, last.1)

pub returns-in_err-first-clause-complete : goal.returns-in_err-first-clause-complete
returns-in_err-first-clause-complete g c first second p q sent first_size second_size it is_sent start =
    let m = sumcheck_of g.F.PrimeCharacteristicRing.residues (algebra_of g.F.PrimeCharacteristicRing.residues.order
    g.F.BasedVectorSpace.DIMENSION (g.D.DigestHasher.digest_of g.F.AlgebraIdentity.identity) g.F.Named.name_bytes)
    g.Cdc.Codec.observation g.Cdc.Codec.sampling g.Cdc.Codec.encoding in
    let one = first-bytes m first second p q it sent is_sent in
    let other = second-bytes m first second p q it sent is_sent in
    let begins = start ∙ ap (with_bytes p) (two-split m first second p q it sent is_sent) in
    let e = err_from_is_err_and c.from_residual.result c.from_residual.ensures.1 in
    rw (e.1, e.2)
    (c.in_err-first.ensures.complete first p it.here one other first_size it.one
    (first-left m first second p q it sent is_sent) begins)

pub returns-in_err-second-clause-complete : goal.returns-in_err-second-clause-complete
returns-in_err-second-clause-complete g c first second p q sent first_size second_size it is_sent start =
    let m = sumcheck_of g.F.PrimeCharacteristicRing.residues (algebra_of g.F.PrimeCharacteristicRing.residues.order
    g.F.BasedVectorSpace.DIMENSION (g.D.DigestHasher.digest_of g.F.AlgebraIdentity.identity) g.F.Named.name_bytes)
    g.Cdc.Codec.observation g.Cdc.Codec.sampling g.Cdc.Codec.encoding in
    let one = first-bytes m first second p q it sent is_sent in
    let other = second-bytes m first second p q it sent is_sent in
    let begins = start ∙ ap (with_bytes p) (two-split m first second p q it sent is_sent) in
    let read = c.in_ok-first.ensures.complete first p it.here one other first_size it.one
    (first-left m first second p q it sent is_sent) begins in
    let then = read.1 ∙ ap (with_bytes it.here) (sym (append-nil other)) in
    let e = err_from_is_err_and c.from_residual-in_err-second.result c.from_residual-in_err-second.ensures.1 in
    rw (e.1, e.2)
    (c.in_err-second.ensures.complete second it.here q other [] second_size it.other
    (second-left m first second p q it sent is_sent) then)
