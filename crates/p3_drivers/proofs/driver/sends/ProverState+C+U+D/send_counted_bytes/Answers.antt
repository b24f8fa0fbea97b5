use Rattle.std.proofs.{Common.{ap, subst, refl, inr, ◌∙◌, ◌||◌}, lemmas.Result.err_from_is_err_and}
use Rattle.p3_challenger_core.specs.Observation.{observed_all}
use Rattle.p3_fs_core.specs.{Alphabet.alphabet_of, declared.step.Kind.TheVariants.Message}
use Rattle.p3_driver_core.specs.Effects.{observing_bytes}
use Rattle.p3_drivers.{specs.Drivers.proving_of, proofs.Pieces.challenger-refused}
use Rattle.p3_driver_core.specs.Meanings as meaning
use Rattle.p3_drivers.proofs.driver.sends.ProverState+C+U+D.send_counted_bytes.Goals as goal

-- the bytes are refused of a challenger that observed their count
pub returns-in_err-observe_bytes-2 : goal.returns-in_err-observe_bytes-2
returns-in_err-observe_bytes-2 g c =
    let p = err_from_is_err_and c.from_residual-in_err-observe_bytes-2.result
    c.from_residual-in_err-observe_bytes-2.ensures.1 in
    let state = g.C.Sponge.state in
    let opened = c.in_ok-take_bytes.ensures.ok in
    let alphabet = alphabet_of g.U.Unit.items g.U.Unit.is_too_long g.C.CanObserve.observation
    g.C.CanObserve.slice_may_leave in
    let bytes = c.args.bytes.now in
    let start = state c.args.self.now.challenger in
    let end = state c.observe_bytes-2.new.challenger in
    let e = c.in_err-observe_bytes-2.field-0.0 in
    let at = c.in_ok-observe_bytes.ensures.ok.1
    ∙ ap (λ count. observed_all alphabet.item.observed start (alphabet.items count)) c.counted-width.ensures.bytes in
    rw (p.1, p.2) (challenger-refused (meaning.sent_bytes_bounded Message c.args.label.now alphabet c.args.max bytes)
    (proving_of state c.args.self.now) _ e opened.is_next
    (ap (λ b. b || c.take_bytes.new.self.player.finished) opened.closed) refl
    (inr (subst (λ s. (observing_bytes alphabet bytes).refuses e s end) at c.in_err-observe_bytes-2.ensures.err)))
