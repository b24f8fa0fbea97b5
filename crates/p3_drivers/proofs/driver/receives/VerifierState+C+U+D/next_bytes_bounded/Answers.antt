use Rattle.std.proofs.{Common.{length, inl, inr, subst, ap, ◌∙◌, ◌||◌}, lemmas.Result.err_from_is_err_and}
use Rattle.p3_fs_core.specs.{BigEndian.count_bytes, Alphabet.alphabet_of, declared.step.Kind.TheVariants.Message}
use Rattle.p3_fs_core.specs.declared.step.Length.TheVariants.{Bounded}
use Rattle.p3_driver_core.specs.{Effects.{observing_bytes, in_sequence}, Transcripts.bytes_step}
use Rattle.p3_drivers.{proofs.Refusals.{not-read, refused-after_read}, specs.Drivers.verifying_of}
use Rattle.p3_driver_core.specs.Reads as reads
use Rattle.p3_drivers.proofs.driver.receives.VerifierState+C+U+D.next_bytes_bounded.Goals as goal

pub returns-in_err-bytes-clause-exact : goal.returns-in_err-bytes-clause-exact
returns-in_err-bytes-clause-exact g c =
    let p = err_from_is_err_and c.from_residual-in_err-bytes.result c.from_residual-in_err-bytes.ensures.1 in
    let state = g.C.Sponge.state in
    let opened = c.in_ok-take_bytes.ensures.ok in
    let same = c.in_err-bytes.ensures.steps in
    let kept = c.in_err-bytes.ensures.challenger in
    rw (p.1, p.2) (not-read (reads.received_bytes_bounded c.args.label.now
    (alphabet_of g.U.Unit.items g.U.Unit.is_too_long g.C.CanObserve.observation g.C.CanObserve.slice_may_leave)
    c.args.max) (verifying_of state c.args.self.now) (verifying_of state c.read_counted.new.self)
    c.in_err-bytes.field-0.0 opened.is_next c.in_err-bytes.ensures.read (ap state kept)
    (ap (λ t. t.closed || t.player.finished) same ∙ ap (λ b. b || c.take_bytes.new.self.player.finished) opened.closed))

pub returns-in_err-observe_count-clause-exact : goal.returns-in_err-observe_count-clause-exact
returns-in_err-observe_count-clause-exact g c =
    let p = err_from_is_err_and c.from_residual-in_err-observe_count.result
    c.from_residual-in_err-observe_count.ensures.1 in
    let state = g.C.Sponge.state in
    let opened = c.in_ok-take_bytes.ensures.ok in
    let same = c.in_ok-bytes.ensures.steps in
    let kept = c.in_ok-bytes.ensures.challenger in
    let bytes = c.in_ok-bytes.bytes.now in
    let alphabet = alphabet_of g.U.Unit.items g.U.Unit.is_too_long g.C.CanObserve.observation
    g.C.CanObserve.slice_may_leave in
    let counted = observing_bytes alphabet (count_bytes c.args.max (length bytes)) in
    let before = verifying_of state c.args.self.now in
    let here = state c.read_counted.new.self.challenger in
    rw (p.1, p.2) (refused-after_read (bytes_step Message c.args.label.now (Bounded c.args.max))
    (reads.read_counted_bytes reads.message_too_long c.args.max)
    (λ bs. in_sequence (observing_bytes alphabet (count_bytes c.args.max (length bs))) (observing_bytes alphabet bs))
    before _ bytes c.in_err-observe_count.field-0.0
    here opened.is_next c.in_ok-bytes.ensures.read (ap state kept) (inl c.in_err-observe_count.ensures.does)
    (ap (λ t. t.closed || t.player.finished) same ∙ ap (λ b. b || c.take_bytes.new.self.player.finished) opened.closed))

pub returns-in_err-observe_bytes-clause-exact : goal.returns-in_err-observe_bytes-clause-exact
returns-in_err-observe_bytes-clause-exact g c =
    let p = err_from_is_err_and c.from_residual-in_err-observe_bytes.result
    c.from_residual-in_err-observe_bytes.ensures.1 in
    let state = g.C.Sponge.state in
    let opened = c.in_ok-take_bytes.ensures.ok in
    let same = c.in_ok-bytes.ensures.steps in
    let kept = c.in_ok-bytes.ensures.challenger in
    let bytes = c.in_ok-bytes.bytes.now in
    let alphabet = alphabet_of g.U.Unit.items g.U.Unit.is_too_long g.C.CanObserve.observation
    g.C.CanObserve.slice_may_leave in
    let counted = observing_bytes alphabet (count_bytes c.args.max (length bytes)) in
    let before = verifying_of state c.args.self.now in
    let here = state c.read_counted.new.self.challenger in
    let e = c.in_err-observe_bytes.field-0.0 in
    let end = state c.observe_bytes.new.challenger in
    rw (p.1, p.2) (refused-after_read (bytes_step Message c.args.label.now (Bounded c.args.max))
    (reads.read_counted_bytes reads.message_too_long c.args.max) (λ bs. in_sequence (observing_bytes
    alphabet (count_bytes c.args.max (length bs))) (observing_bytes alphabet bs)) before _ bytes e here opened.is_next
    c.in_ok-bytes.ensures.read (ap state kept) (inr (subst (λ u. (observing_bytes alphabet bytes).refuses e u end)
    c.in_ok-observe_count.ensures.does.1 c.in_err-observe_bytes.ensures.err))
    (ap (λ t. t.closed || t.player.finished) same ∙ ap (λ b. b || c.take_bytes.new.self.player.finished) opened.closed))
