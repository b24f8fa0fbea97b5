use Rattle.std.proofs.{Common.{ap, ◌∙◌, ◌||◌}, lemmas.Result.err_from_is_err_and}
use Rattle.p3_fs_core.specs.Alphabet.{alphabet_of}
use Rattle.p3_drivers.{proofs.Refusals.not-read, specs.Drivers.verifying_of}
use Rattle.p3_driver_core.specs.Reads as reads
use Rattle.p3_drivers.proofs.driver.receives.VerifierState+C+U+D.receive_bytes.Goals as goal

pub returns-in_err-bytes-clause-exact : goal.returns-in_err-bytes-clause-exact
returns-in_err-bytes-clause-exact g c =
    let p = err_from_is_err_and c.from_residual-in_err-bytes.result c.from_residual-in_err-bytes.ensures.1 in
    let state = g.C.Sponge.state in
    let opened = c.in_ok-take_bytes.ensures.ok in
    let same = c.in_err-bytes.ensures.steps in
    let kept = c.in_err-bytes.ensures.challenger in
    rw (p.1, p.2) (not-read (reads.received_bytes c.args.kind c.args.label.now
    (alphabet_of g.U.Unit.items g.U.Unit.is_too_long g.C.CanObserve.observation g.C.CanObserve.slice_may_leave)
    c.args.len) (verifying_of state c.args.self.now) (verifying_of state c.read_bytes.new.self)
    c.in_err-bytes.field-0.0 opened.is_next c.in_err-bytes.ensures.read (ap state kept)
    (ap (λ t. t.closed || t.player.finished) same ∙ ap (λ b. b || c.take_bytes.new.self.player.finished) opened.closed))
