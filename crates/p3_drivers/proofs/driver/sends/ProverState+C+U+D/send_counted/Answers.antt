use Rattle.std.proofs.{Common.{ap, subst, refl, inl, ◌||◌}, lemmas.Result.err_from_is_err_and}
use Rattle.p3_fs_core.specs.{Steps.{algebra_of, algebra_step}, Alphabet.alphabet_of}
use Rattle.p3_fs_core.specs.declared.step.{Kind.TheVariants.Message, Length.TheVariants.Bounded}
use Rattle.p3_driver_core.specs.Effects.{observing_bytes}
use Rattle.p3_drivers.{specs.Drivers.proving_of, proofs.Pieces.challenger-refused}
use Rattle.p3_driver_core.specs.Meanings as meaning
use Rattle.p3_drivers.proofs.driver.sends.ProverState+C+U+D.send_counted.Goals as goal

-- the count is refused
pub returns-in_err-observe_bytes-clause-exact : goal.returns-in_err-observe_bytes-clause-exact
returns-in_err-observe_bytes-clause-exact g c =
    let p = err_from_is_err_and c.from_residual-in_err-observe_bytes.result
    c.from_residual-in_err-observe_bytes.ensures.1 in
    let state = g.C.Sponge.state in
    let opened = c.in_ok-take_algebra.ensures.ok in
    let alphabet = alphabet_of g.U.Unit.items g.U.Unit.is_too_long g.C.CanObserve.observation
    g.C.CanObserve.slice_may_leave in
    let step = algebra_step Message c.args.label.now (algebra_of g.F.PrimeCharacteristicRing.residues.order
    g.F.BasedVectorSpace.DIMENSION (g.D.DigestHasher.digest_of g.F.AlgebraIdentity.identity) g.F.Named.name_bytes)
    (Bounded c.args.max) in
    let start = state c.args.self.now.challenger in
    let end = state c.observe_bytes.new.challenger in
    let e = c.in_err-observe_bytes.field-0.0 in
    rw (p.1, p.2) (challenger-refused
    (meaning.sent_bounded step alphabet c.args.max g.Cdc.Codec.observation g.Cdc.Codec.encoding c.args.values.now)
    (proving_of state c.args.self.now) _ e opened.is_next (ap (λ b. b || c.take_algebra.new.self.player.finished)
    opened.closed) refl (inl (subst (λ count. (observing_bytes alphabet count).refuses e start end)
    c.counted-width.ensures.bytes c.in_err-observe_bytes.ensures.err)))
