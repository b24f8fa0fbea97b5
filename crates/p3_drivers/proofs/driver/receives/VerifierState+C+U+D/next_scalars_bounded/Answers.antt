use Rattle.std.proofs.{Common.{refl, subst, ap, ◌∙◌, ◌||◌}, lemmas.Result.err_from_is_err_and}
use Rattle.p3_fs_core.specs.declared.step.{Kind.TheVariants.Message, Length.TheVariants.Bounded}
use Rattle.p3_fs_core.specs.{BigEndian.count_bytes, Alphabet.alphabet_of, Steps.{algebra_of, algebra_step}}
use Rattle.p3_driver_core.specs.{Bound.bound_values, Driving.playing_of, Effects.observing_bytes}
use Rattle.p3_drivers.proofs.Refusals.{not-read, count-fails, count-refused, values-refused, values-received}
use Rattle.p3_drivers.specs.Drivers.{verifying_of}
use Rattle.p3_driver_core.specs.Reads as reads
use Rattle.p3_drivers.proofs.driver.receives.VerifierState+C+U+D.next_scalars_bounded.Goals as goal

pub returns-in_err-count-clause-exact : goal.returns-in_err-count-clause-exact
returns-in_err-count-clause-exact g c =
    let p = err_from_is_err_and c.from_residual-in_err-count.result c.from_residual-in_err-count.ensures.1 in
    let state = g.C.Sponge.state in
    let opened = c.in_ok-take_algebra.ensures.ok in
    let alphabet = alphabet_of g.U.Unit.items g.U.Unit.is_too_long g.C.CanObserve.observation
    g.C.CanObserve.slice_may_leave in
    let step = algebra_step Message c.args.label.now (algebra_of g.F.PrimeCharacteristicRing.residues.order
    g.F.BasedVectorSpace.DIMENSION (g.D.DigestHasher.digest_of g.F.AlgebraIdentity.identity) g.F.Named.name_bytes)
    (Bounded c.args.max) in
    let o = g.Cdc.Codec.observation in
    let enc = g.Cdc.Codec.encoding in
    let before = verifying_of state c.args.self.now in
    let closed = ap (λ b. b || c.take_algebra.new.self.player.finished) opened.closed in
    let after = verifying_of state c.read_count.new.self in
    let same = c.in_err-count.ensures.steps in
    let kept = c.in_err-count.ensures.challenger in
    let finished = ap (λ t. t.closed || t.player.finished) same ∙ closed in
    let e = c.in_err-count.field-0.0 in
    rw (p.1, p.2) (not-read (reads.received_bounded step alphabet c.args.max o enc)
    before after e opened.is_next (count-fails step o enc before after
    opened.is_next finished alphabet c.args.max after.bytes e c.in_err-count.ensures.read) (ap state kept) finished)

pub returns-in_err-observe_count-clause-exact : goal.returns-in_err-observe_count-clause-exact
returns-in_err-observe_count-clause-exact g c =
    let p = err_from_is_err_and c.from_residual-in_err-observe_count.result
    c.from_residual-in_err-observe_count.ensures.1 in
    let state = g.C.Sponge.state in
    let opened = c.in_ok-take_algebra.ensures.ok in
    let alphabet = alphabet_of g.U.Unit.items g.U.Unit.is_too_long g.C.CanObserve.observation
    g.C.CanObserve.slice_may_leave in
    let step = algebra_step Message c.args.label.now (algebra_of g.F.PrimeCharacteristicRing.residues.order
    g.F.BasedVectorSpace.DIMENSION (g.D.DigestHasher.digest_of g.F.AlgebraIdentity.identity) g.F.Named.name_bytes)
    (Bounded c.args.max) in
    let o = g.Cdc.Codec.observation in
    let enc = g.Cdc.Codec.encoding in
    let before = verifying_of state c.args.self.now in
    let closed = ap (λ b. b || c.take_algebra.new.self.player.finished) opened.closed in
    let same = c.in_ok-count.ensures.steps in
    let kept = c.in_ok-count.ensures.challenger in
    let finished = ap (λ t. t.closed || t.player.finished) same ∙ closed in
    let e = c.in_err-observe_count.field-0.0 in
    let end = state c.observe_count.new.challenger in
    let n = c.in_ok-count.count in
    rw (p.1, p.2) (count-refused step o enc before _ opened.is_next finished alphabet c.args.max n
    c.read_count.new.self.tape.bytes.now c.in_ok-count.ensures.read refl e c.in_err-observe_count.ensures.memory
    (subst (λ s. (observing_bytes alphabet (count_bytes c.args.max n)).refuses e s end)
    (ap state kept) c.in_err-observe_count.ensures.does))

pub returns-in_err-bounds-clause-exact : goal.returns-in_err-bounds-clause-exact
returns-in_err-bounds-clause-exact g c =
    let p = err_from_is_err_and c.from_residual-in_err-bounds.result c.from_residual-in_err-bounds.ensures.1 in
    let state = g.C.Sponge.state in
    let opened = c.in_ok-take_algebra.ensures.ok in
    let alphabet = alphabet_of g.U.Unit.items g.U.Unit.is_too_long g.C.CanObserve.observation
    g.C.CanObserve.slice_may_leave in
    let step = algebra_step Message c.args.label.now (algebra_of g.F.PrimeCharacteristicRing.residues.order
    g.F.BasedVectorSpace.DIMENSION (g.D.DigestHasher.digest_of g.F.AlgebraIdentity.identity) g.F.Named.name_bytes)
    (Bounded c.args.max) in
    let o = g.Cdc.Codec.observation in
    let enc = g.Cdc.Codec.encoding in
    let before = verifying_of state c.args.self.now in
    let closed = ap (λ b. b || c.take_algebra.new.self.player.finished) opened.closed in
    let after = verifying_of state c.receive_values.new.self in
    let same = c.in_ok-count.ensures.steps in
    let kept = c.in_ok-count.ensures.challenger in
    let finished = ap (λ t. t.closed || t.player.finished) c.in_err-bounds.ensures.steps
    ∙ ap (λ t. t.closed || t.player.finished) same ∙ closed in
    let n = c.in_ok-count.count in
    rw (p.1, p.2) (values-refused step o enc before
    after opened.is_next finished alphabet c.args.max n c.read_count.new.self.tape.bytes.now c.in_ok-count.ensures.read
    (state c.observe_count.new.challenger) c.in_err-bounds.field-0.0 (c.in_ok-observe_count.ensures.does.1 ∙ ap
    (λ d. (observing_bytes alphabet (count_bytes c.args.max n)).after (state d)) kept) c.in_err-bounds.ensures.read)

pub returns-clause-exact : goal.returns-clause-exact
returns-clause-exact g c =
    let state = g.C.Sponge.state in
    let opened = c.in_ok-take_algebra.ensures.ok in
    let alphabet = alphabet_of g.U.Unit.items g.U.Unit.is_too_long g.C.CanObserve.observation
    g.C.CanObserve.slice_may_leave in
    let step = algebra_step Message c.args.label.now (algebra_of g.F.PrimeCharacteristicRing.residues.order
    g.F.BasedVectorSpace.DIMENSION (g.D.DigestHasher.digest_of g.F.AlgebraIdentity.identity) g.F.Named.name_bytes)
    (Bounded c.args.max) in
    let o = g.Cdc.Codec.observation in
    let enc = g.Cdc.Codec.encoding in
    let before = verifying_of state c.args.self.now in
    let same = c.in_ok-count.ensures.steps in
    let kept = c.in_ok-count.ensures.challenger in
    let n = c.in_ok-count.count in
    values-received step o enc alphabet c.args.max before
    _ n c.read_count.new.self.tape.bytes.now (bound_values c.in_ok-bounds.bounds) (state c.observe_count.new.challenger)
    opened.is_next c.in_ok-count.ensures.read c.in_ok-observe_count.ensures.does.0 (c.in_ok-observe_count.ensures.does.1
    ∙ ap (λ d. (observing_bytes alphabet (count_bytes c.args.max n)).after (state d)) kept)
    c.in_ok-bounds.ensures.read.0 c.in_ok-bounds.ensures.read.1
    (ap playing_of c.done.ensures ∙ ap (λ t. t.player) (c.in_ok-bounds.ensures.steps ∙ same) ∙ opened.player)
