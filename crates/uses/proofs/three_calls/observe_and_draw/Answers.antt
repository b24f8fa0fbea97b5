use Rattle.std.proofs.{Common.List, lemmas.Result.{err_from_is_err_and, IfErr-weaker}}
use Rattle.p3_challenger.specs.Observation.{Observation, IsObservation, in_slice}
use Rattle.p3_challenger.specs.ObservationLaws.{in_slice-is_observation}
use Rattle.uses.proofs.ThreeCalls.{first-refused, rest-refused, draw-refused, drawn}
use Rattle.uses.proofs.three_calls.observe_and_draw.Given.{Over}
use Rattle.uses.proofs.three_calls.observe_and_draw.Goals as goal

-- the second call, as one observation
abbrev slice : (g : Over) → Observation g.row.C-State.Denot g.row.C-Symbol.Denot (List g.row.B.Denot)
slice g = in_slice g.C.CanObserve-2.observation g.C.CanObserve-2.slice_may_leave

slice_laws : (g : Over) → IsObservation g.C.Sponge.fed (slice g)
slice_laws g =
    in_slice-is_observation g.C.Sponge.fed g.C.Sponge.fed_nothing g.C.Sponge.fed_more g.C.CanObserve-2.observation
    g.met.C.CanObserve-2.observes g.C.CanObserve-2.slice_may_leave g.met.C.CanObserve-2.slice_leaves

pub returns-in_err-observe-clause-err : goal.returns-in_err-observe-clause-err
returns-in_err-observe-clause-err g c =
    let p = err_from_is_err_and c.from_residual.result c.from_residual.ensures.1 in
    rw (p.1, p.2) (first-refused g.C.Sponge.fed g.C.Sponge.fed_nothing g.C.Sponge.fed_more g.C.Sponge.next
    g.C.CanObserve-1.observation g.met.C.CanObserve-1.observes (slice g) (slice_laws g)
    g.C.CanSample.sampling g.met.C.CanSample.samples c.args.first c.args.rest.now
    (g.C.Sponge.state c.args.challenger.now)
    c.in_err-observe.field-0.0 _ c.in_err-observe.ensures.err)

pub returns-in_err-observe_slice-clause-err : goal.returns-in_err-observe_slice-clause-err
returns-in_err-observe_slice-clause-err g c =
    let p = err_from_is_err_and c.from_residual-in_err-observe_slice.result
    c.from_residual-in_err-observe_slice.ensures.1 in
    rw (p.1, p.2) (rest-refused g.C.Sponge.fed g.C.Sponge.fed_nothing g.C.Sponge.fed_more g.C.Sponge.next
    g.C.CanObserve-1.observation g.met.C.CanObserve-1.observes (slice g) (slice_laws g)
    g.C.CanSample.sampling g.met.C.CanSample.samples c.args.first c.args.rest.now
    (g.C.Sponge.state c.args.challenger.now)
    (g.C.Sponge.state c.observe.new.self) c.in_ok-observe.ensures.ok
    c.in_err-observe_slice.field-0.0 _ c.in_err-observe_slice.ensures.err)

pub returns-clause-drawn : goal.returns-clause-drawn
returns-clause-drawn g c =
    drawn g.C.Sponge.fed g.C.Sponge.fed_nothing g.C.Sponge.fed_more g.C.Sponge.next
    g.C.CanObserve-1.observation g.met.C.CanObserve-1.observes (slice g) (slice_laws g)
    g.C.CanSample.sampling g.met.C.CanSample.samples c.args.first c.args.rest.now
    (g.C.Sponge.state c.args.challenger.now)
    (g.C.Sponge.state c.observe.new.self) c.in_ok-observe.ensures.ok
    (g.C.Sponge.state c.observe_slice.new.self) c.in_ok-observe_slice.ensures.ok
    c.sample.result (g.C.Sponge.state c.sample.new.self) c.sample.ensures.drawn c.sample.ensures.after

pub returns-clause-err : goal.returns-clause-err
returns-clause-err g c =
    IfErr-weaker c.sample.result _ _ (λ e h. draw-refused g.C.Sponge.fed g.C.Sponge.fed_nothing g.C.Sponge.fed_more
    g.C.Sponge.next
    g.C.CanObserve-1.observation g.met.C.CanObserve-1.observes (slice g) (slice_laws g)
    g.C.CanSample.sampling g.met.C.CanSample.samples c.args.first c.args.rest.now
    (g.C.Sponge.state c.args.challenger.now)
    (g.C.Sponge.state c.observe.new.self) c.in_ok-observe.ensures.ok
    (g.C.Sponge.state c.observe_slice.new.self) c.in_ok-observe_slice.ensures.ok
    e (g.C.Sponge.state c.sample.new.self) h) c.sample.ensures.err
