use Rattle.std.proofs.Common.{◌++◌, ap, sym, ◌∙◌}
use Rattle.p3_test_support.proofs.Observed.{recorded_all}
use Rattle.p3_test_support.proofs.recording_challenger.RecordingChallengerCanObserve.observe_slice.Goals as goal

pub returns-clause-ok : goal.returns-clause-ok
returns-clause-ok g c =
    c.in_ok-extend_from_slice.ensures.items
    ∙ ap (λ s. s ++ c.args.values.now) c.self.view_is
    ∙ sym (recorded_all c.args.self.now c.args.values.now)
