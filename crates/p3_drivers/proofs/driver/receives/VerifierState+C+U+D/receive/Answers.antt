use Rattle.std.proofs.{Common.{ap, ◌∙◌, ◌||◌}, lemmas.Result.err_from_is_err_and}
use Rattle.p3_fs_core.specs.{Steps.{algebra_of, algebra_step}, declared.step.Kind.TheVariants.Message}
use Rattle.p3_fs_core.specs.declared.step.Length.TheVariants.{Scalar}
use Rattle.p3_drivers.{proofs.Refusals.not-read, specs.Drivers.verifying_of}
use Rattle.p3_driver_core.specs.Reads as reads
use Rattle.p3_drivers.proofs.driver.receives.VerifierState+C+U+D.receive.Goals as goal

pub returns-in_err-value : goal.returns-in_err-value
returns-in_err-value g c =
    let p = err_from_is_err_and c.from_residual-in_err-value.result c.from_residual-in_err-value.ensures.1 in
    let state = g.C.Sponge.state in
    let opened = c.in_ok-take_algebra.ensures.ok in
    let same = c.in_err-value.ensures.steps in
    let kept = c.in_err-value.ensures.challenger in
    rw (p.1, p.2) (not-read
    (reads.received (algebra_step Message c.args.label.now (algebra_of g.F.PrimeCharacteristicRing.residues.order
    g.A.BasedVectorSpace.DIMENSION (g.D.DigestHasher.digest_of g.A.AlgebraIdentity.identity) g.A.Named.name_bytes)
    Scalar) g.Cdc.Codec.observation g.Cdc.Codec.encoding) (verifying_of state c.args.self.now) (verifying_of
    state c.read_value.new.self) c.in_err-value.field-0.0 opened.is_next c.in_err-value.ensures.read (ap state kept) (ap
    (λ t. t.closed || t.player.finished) same ∙ ap (λ b. b || c.take_algebra.new.self.player.finished) opened.closed))
