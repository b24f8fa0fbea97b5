use Rattle.std.proofs.Common.{rules, ◌∙◌, ap}
use Rattle.p3_challenger_core.specs.Observation.{in_slice, observed_all}
use Rattle.p3_grinding.specs.CheckLaws.{byte_check-refused}
use Rattle.p3_grinding.proofs.byte_grinding_challenger.check_bytes.Goals as goal

pub returns-in_err-drawn-clause-err : goal.returns-in_err-drawn-clause-err
returns-in_err-drawn-clause-err g c =
    let observation = g.C.CanObserve.observation in
    let start = g.C.Sponge.state c.args.challenger.now in
    let stops = byte_check-refused g.C.Sponge.next (in_slice observation g.C.CanObserve.slice_may_leave)
    g.C.CanSample.sampling g.met.C.CanSample.samples g.row.S (g.K.ByteCandidates.encoded c.args.candidates.now)
    (g.K.ByteCandidates.accepted c.args.candidates.now) c.args.candidate c.in_err-drawn.field-0.0 start
    (g.C.Sponge.state c.observe_slice.new.self) (g.C.Sponge.state c.sample_array.new.challenger)
    (c.in_ok-observe_slice.ensures.ok ∙ ap (observed_all observation.observed start) c.encode-bytes.ensures)
    c.in_err-drawn.ensures.err in
    search (rules, stops)
