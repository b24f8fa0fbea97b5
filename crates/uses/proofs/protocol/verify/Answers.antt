use Rattle.std.proofs.{Common.{arith, ◌∙◌, ap, refl, subst, sym}, lemmas.Result.err_from_is_err_and}
use Rattle.p3_challenger.specs.{Reading.AreBytes, Drivers.verifying_of, SeparatorSeed.{pattern_of, seed_of_separator}}
use Rattle.p3_field.specs.{BabyBearResidues.residues, Residues.sum_of, SmallPrimeLaws.compared-by-numbers}
use Rattle.p3_challenger.specs.BegunLaws.{begun-as}
use Rattle.uses.{specs.Protocol.IsAnswer, proofs.Accepting.{ends-reading, ahead-of}}
use Rattle.uses.proofs.Runs.{received-alone, answered, run-as}
use Rattle.p3_symmetric.specs.contracts.sha256.Sha256HasherDigestHasher.TheImpl as digests
use Rattle.uses.proofs.protocol.verify.Goals as goal

pub returns-clause-run : goal.returns-clause-run
returns-clause-run c =
    let verifier = verifying_of (λ s. s) c.in_ok-verifier.verifier in
    let start = begun-as c.challenger.result verifier.transcript.challenger
    (seed_of_separator digests.ghosts.digest_of c.args.separator.now)
    (ap (λ v. v.transcript.challenger) c.in_ok-verifier.ensures.ok)
    c.challenger.ensures in
    let are : AreBytes verifier.bytes = subst AreBytes (sym (ap (λ v. v.bytes) c.in_ok-verifier.ensures.ok))
    (λ i. omega (arith, c.type_inv.proof i)) in
    let exact = compared-by-numbers c.mul-2.result c.add-value.result in
    let value = c.add-value.ensures ∙ ap (λ x. sum_of residues x c.in_ok-claim.claim.offset) c.mul.ensures in (
      c.in_ok-claim.claim,
      answered c.eq.result c.in_ok-claim.claim c.then_some.result c.then_some.ensures (
        λ right. sym c.mul-2.ensures ∙ exact.0 (sym c.eq.ensures ∙ right) ∙ value,
        λ quotient. c.eq.ensures ∙ exact.1 (c.mul-2.ensures ∙ quotient ∙ sym value),
      ),
      run-as _ _ _ _ _ _ _ _ _ start
          (received-alone _ _ _ _ (ap (λ v. v.bytes) c.in_ok-verifier.ensures.ok) c.in_ok-end.ensures.ok.whole
          (c.in_ok-claim.ensures.read are))
          (record {
            place = c.in_ok-claim.ensures.place;
            divisor = c.in_ok-claim.ensures.divisor;
            encoded = refl;
          }),
    )

pub returns-in_err-claim-clause-accepted : goal.returns-in_err-claim-clause-accepted
returns-in_err-claim-clause-accepted c steps claim run =
    let start = begun-as c.challenger.result (verifying_of (λ s. s) c.in_ok-verifier.verifier).transcript.challenger
    (seed_of_separator digests.ghosts.digest_of c.args.separator.now)
    (ap (λ v. v.transcript.challenger) c.in_ok-verifier.ensures.ok)
    c.challenger.ensures in
    let ahead = ahead-of _ _ _ _ _ _ _ (pattern_of c.args.separator.now) _ _ claim c.in_ok-verifier.ensures.ok refl refl
    steps start run in
    let p = err_from_is_err_and c.from_residual-in_err-claim.result c.from_residual-in_err-claim.ensures.1 in
    rw (p.1, p.2) (c.in_err-claim.ensures.accepted claim _ ahead)

pub returns-in_err-end-clause-accepted : goal.returns-in_err-end-clause-accepted
returns-in_err-end-clause-accepted c steps claim run =
    let start = begun-as c.challenger.result (verifying_of (λ s. s) c.in_ok-verifier.verifier).transcript.challenger
    (seed_of_separator digests.ghosts.digest_of c.args.separator.now)
    (ap (λ v. v.transcript.challenger) c.in_ok-verifier.ensures.ok)
    c.challenger.ensures in
    let ahead = ahead-of _ _ _ _ _ _ _ (pattern_of c.args.separator.now) _ _ claim c.in_ok-verifier.ensures.ok refl refl
    steps start run in
    let past = (c.in_ok-claim.ensures.accepted claim _ ahead).1 in
    let ended = c.in_err-end.ensures.only (ends-reading _ _ _ _ _ _ _ claim ahead past) in
    absurd (cc)

pub returns-clause-accepted : goal.returns-clause-accepted
returns-clause-accepted c steps claim run =
    let start = begun-as c.challenger.result (verifying_of (λ s. s) c.in_ok-verifier.verifier).transcript.challenger
    (seed_of_separator digests.ghosts.digest_of c.args.separator.now)
    (ap (λ v. v.transcript.challenger) c.in_ok-verifier.ensures.ok)
    c.challenger.ensures in
    let ahead = ahead-of _ _ _ _ _ _ _ (pattern_of c.args.separator.now) _ _ claim c.in_ok-verifier.ensures.ok refl refl
    steps start run in
    let exact = compared-by-numbers c.mul-2.result c.add-value.result in
    let value = c.add-value.ensures ∙ ap (λ x. sum_of residues x c.in_ok-claim.claim.offset) c.mul.ensures in
    subst (IsAnswer c.then_some.result) (c.in_ok-claim.ensures.accepted claim _ ahead).0
    (answered c.eq.result c.in_ok-claim.claim c.then_some.result c.then_some.ensures (
      λ right. sym c.mul-2.ensures ∙ exact.0 (sym c.eq.ensures ∙ right) ∙ value,
      λ quotient. c.eq.ensures ∙ exact.1 (c.mul-2.ensures ∙ quotient ∙ sym value),
    ))
