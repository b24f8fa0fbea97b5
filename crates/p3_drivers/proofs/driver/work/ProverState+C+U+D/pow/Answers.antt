use Rattle.std.proofs.{Common.{inl, refl, ap, ◌||◌}, lemmas.Result.err_from_is_err_and}
use Rattle.p3_fs_core.specs.{Steps.{algebra_of, algebra_step}, declared.step.Kind.TheVariants.Pow}
use Rattle.p3_fs_core.specs.declared.step.Length.TheVariants.{Fixed}
use Rattle.p3_driver_core.specs.{Driving.transcript_of, Working.work_of}
use Rattle.p3_drivers.proofs.Pieces.{search-refused}
use Rattle.p3_drivers.proofs.driver.work.ProverState+C+U+D.pow.Goals as goal

pub returns-in_err-sent : goal.returns-in_err-sent
returns-in_err-sent g c =
    let p = err_from_is_err_and c.from_residual-in_err-sent.result c.from_residual-in_err-sent.ensures.1 in
    let state = g.C.Sponge.state in
    let opened = c.in_ok-take_algebra.ensures.ok in
    let step = algebra_step Pow c.args.label.now (algebra_of g.C.Witness.PrimeCharacteristicRing.residues.order
    g.C.Witness.BasedVectorSpace.DIMENSION (g.D.DigestHasher.digest_of g.C.Witness.AlgebraIdentity.identity)
    g.C.Witness.Named.name_bytes) (Fixed c.args.bits) in
    rw (p.1, p.2) (inl (
      search-refused (work_of step g.C.Witness.PrimeCharacteristicRing.residues
          g.C.BeforeWitness.before_witness g.C.CanObserve.observation g.C.CanSampleBits.bits_sampling c.args.bits)
          g.C.GrindingChallenger.may_run_out (transcript_of (state c.args.self.now.challenger) c.args.self.now.steps)
          (transcript_of (state c.grind.new.self) c.take_algebra.new.self) c.in_err-sent.field-0.0 opened.is_next
          (ap (λ b. b || c.take_algebra.new.self.player.finished) opened.closed) c.in_err-sent.ensures.found,
      refl,
    ))
