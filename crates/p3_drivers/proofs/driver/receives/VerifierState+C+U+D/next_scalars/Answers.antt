use Rattle.std.proofs.{Common.{ap, ◌∙◌, ◌||◌}, lemmas.Result.err_from_is_err_and}
use Rattle.p3_fs_core.specs.{Steps.{algebra_of, algebra_step}, declared.step.Kind.TheVariants.Message}
use Rattle.p3_fs_core.specs.declared.step.Length.TheVariants.{Fixed}
use Rattle.p3_drivers.{proofs.Refusals.list-refused, specs.Drivers.verifying_of}
use Rattle.p3_drivers.proofs.driver.receives.VerifierState+C+U+D.next_scalars.Goals as goal

pub returns-in_err-bounds-clause-exact : goal.returns-in_err-bounds-clause-exact
returns-in_err-bounds-clause-exact g c =
    let p = err_from_is_err_and c.from_residual-in_err-bounds.result c.from_residual-in_err-bounds.ensures.1 in
    let state = g.C.Sponge.state in
    let opened = c.in_ok-take_algebra.ensures.ok in
    let same = c.in_err-bounds.ensures.steps in
    rw (p.1, p.2)
    (list-refused (algebra_step Message c.args.label.now (algebra_of g.F.PrimeCharacteristicRing.residues.order
    g.F.BasedVectorSpace.DIMENSION (g.D.DigestHasher.digest_of g.F.AlgebraIdentity.identity) g.F.Named.name_bytes)
    (Fixed c.args.n)) g.Cdc.Codec.observation g.Cdc.Codec.encoding (verifying_of state c.args.self.now)
    (verifying_of state c.receive_values.new.self) opened.is_next (ap (λ t. t.closed || t.player.finished) same
    ∙ ap (λ b. b || c.take_algebra.new.self.player.finished) opened.closed)
    c.args.n c.in_err-bounds.field-0.0 c.in_err-bounds.ensures.read)
