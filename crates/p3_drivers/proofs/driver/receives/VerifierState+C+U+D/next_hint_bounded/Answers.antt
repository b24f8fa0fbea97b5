use Rattle.std.proofs.{Common.{ap, ◌∙◌, ◌||◌}, lemmas.Result.err_from_is_err_and}
use Rattle.p3_drivers.{proofs.Refusals.{not-read, fails-with-memory}, specs.Drivers.verifying_of}
use Rattle.p3_driver_core.specs.Reads as reads
use Rattle.p3_drivers.proofs.driver.receives.VerifierState+C+U+D.next_hint_bounded.Goals as goal

pub returns-in_err-bytes-clause-exact : goal.returns-in_err-bytes-clause-exact
returns-in_err-bytes-clause-exact g c =
    let p = err_from_is_err_and c.from_residual-in_err-bytes.result c.from_residual-in_err-bytes.ensures.1 in
    let state = g.C.Sponge.state in
    let opened = c.in_ok-take_bytes.ensures.ok in
    let same = c.in_err-bytes.ensures.steps in
    let kept = c.in_err-bytes.ensures.challenger in
    rw (p.1, p.2) (not-read (reads.hint_received_bounded {S = g.row.C-State.Denot} {Symbol = g.row.C-Symbol.Denot}
    c.args.label.now c.args.max) (verifying_of state c.args.self.now) (verifying_of state c.read_counted.new.self)
    c.in_err-bytes.field-0.0 opened.is_next c.in_err-bytes.ensures.read (ap state kept)
    (ap (λ t. t.closed || t.player.finished) same ∙ ap (λ b. b || c.take_bytes.new.self.player.finished) opened.closed))

pub returns-in_err-bytes-clause-no_memory : goal.returns-in_err-bytes-clause-no_memory
returns-in_err-bytes-clause-no_memory g c =
    let p = err_from_is_err_and c.from_residual-in_err-bytes.result c.from_residual-in_err-bytes.ensures.1 in
    rw (p.1, p.2) (fails-with-memory _ _ _ c.in_err-bytes.ensures.read)
