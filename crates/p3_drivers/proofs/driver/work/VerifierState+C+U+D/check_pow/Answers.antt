use Rattle.std.proofs.{Common.{ap, ◌∙◌, ◌||◌, inl}, lemmas.Result.err_from_is_err_and}
use Rattle.p3_fs_core.specs.{Scalar.encoding, declared.step.{Kind.TheVariants.Pow, Length.TheVariants.Fixed}}
use Rattle.p3_fs_core.specs.Steps.{algebra_of, algebra_step}
use Rattle.p3_driver_core.specs.Working.{work_of}
use Rattle.p3_drivers.{proofs.Refusals.not-read, specs.Drivers.verifying_of}
use Rattle.p3_driver_core.specs.Reads as reads
use Rattle.p3_drivers.proofs.driver.work.VerifierState+C+U+D.check_pow.Goals as goal

pub returns-in_err-sent : goal.returns-in_err-sent
returns-in_err-sent g c =
    let p = err_from_is_err_and c.from_residual-in_err-sent.result c.from_residual-in_err-sent.ensures.1 in
    let state = g.C.Sponge.state in
    let opened = c.in_ok-take_algebra.ensures.ok in
    let same = c.in_err-sent.ensures.steps in
    let kept = c.in_err-sent.ensures.challenger in
    let residues = g.C.Witness.PrimeCharacteristicRing.residues in
    let step = algebra_step Pow c.args.label.now (algebra_of residues.order g.C.Witness.BasedVectorSpace.DIMENSION
    (g.D.DigestHasher.digest_of g.C.Witness.AlgebraIdentity.identity) g.C.Witness.Named.name_bytes)
    (Fixed c.args.bits) in
    let work = work_of step residues g.C.BeforeWitness.before_witness g.C.CanObserve.observation
    g.C.CanSampleBits.bits_sampling c.args.bits in
    rw (p.1, p.2) (inl (not-read (reads.received_work work (encoding residues g.C.Witness.Field.bit_length))
    (verifying_of state c.args.self.now) (verifying_of state c.read_witness.new.self) c.in_err-sent.field-0.0
    opened.is_next c.in_err-sent.ensures.read (ap state kept) (ap (λ t. t.closed || t.player.finished) same
    ∙ ap (λ b. b || c.take_algebra.new.self.player.finished) opened.closed)))
