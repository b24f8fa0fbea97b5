use Rattle.std.proofs.{Common.{ℕ, List, length}, lemmas.Result.{err_from_is_err_and, on_ok_weaker, IfErr-weaker}}
use Rattle.p3_challenger.specs.Observation.{Observation, IsObservation}
use Rattle.uses.proofs.BoundValues.{text_of, text-is_observation, first-refused, message-refused, second-refused}
use Rattle.uses.proofs.{BoundValues.three-fed, bound_values.absorb_values.Given.Over}
use Rattle.uses.proofs.bound_values.absorb_values.Goals as goal

abbrev text : (g : Over) → Observation g.row.C-State.Denot g.row.C-Symbol.Denot (List ℕ)
text g =
    text_of g.C.Sponge.fed g.C.Sponge.fed_nothing g.C.Sponge.fed_more
    g.C.CanObserve.observation g.met.C.CanObserve.observes g.C.CanObserve.slice_may_leave
    g.met.C.CanObserve.slice_leaves
    g.U.Unit.items

text_laws : (g : Over) → IsObservation g.C.Sponge.fed (text g)
text_laws g =
    text-is_observation g.C.Sponge.fed g.C.Sponge.fed_nothing g.C.Sponge.fed_more
    g.C.CanObserve.observation g.met.C.CanObserve.observes g.C.CanObserve.slice_may_leave
    g.met.C.CanObserve.slice_leaves
    g.U.Unit.items

pub returns-in_err-observe-clause-err : goal.returns-in_err-observe-clause-err
returns-in_err-observe-clause-err g c =
    let p = err_from_is_err_and c.from_residual.result c.from_residual.ensures.1 in
    rw (p.1, p.2) (first-refused g.C.Sponge.fed g.C.Sponge.fed_nothing g.C.Sponge.fed_more
    g.D.Codec.observation g.met.D.Codec.is_codec.observes (text g) (text_laws g)
    (g.U.Unit.is_too_long (length c.args.message.now)) c.args.first.now c.args.message.now c.args.second.now
    (g.C.Sponge.state c.args.challenger.now) c.in_err-observe.field-0.0 _ c.in_err-observe.ensures.err)

pub returns-in_err-observe_bytes-clause-err : goal.returns-in_err-observe_bytes-clause-err
returns-in_err-observe_bytes-clause-err g c =
    let p = err_from_is_err_and c.from_residual-in_err-observe_bytes.result
    c.from_residual-in_err-observe_bytes.ensures.1 in
    rw (p.1, p.2) (message-refused g.C.Sponge.fed g.C.Sponge.fed_nothing g.C.Sponge.fed_more
    g.D.Codec.observation g.met.D.Codec.is_codec.observes (text g) (text_laws g)
    (g.U.Unit.is_too_long (length c.args.message.now)) c.args.first.now c.args.message.now c.args.second.now
    (g.C.Sponge.state c.args.challenger.now) (g.C.Sponge.state c.observe.new.challenger) c.in_ok-observe.ensures.ok
    c.in_err-observe_bytes.field-0.0 _ c.in_err-observe_bytes.ensures.err)

pub returns-clause-fed : goal.returns-clause-fed
returns-clause-fed g c =
    on_ok_weaker c.observe-2.result (three-fed g.C.Sponge.fed g.C.Sponge.fed_nothing g.C.Sponge.fed_more
    g.D.Codec.observation g.met.D.Codec.is_codec.observes (text g) (text_laws g)
    (g.U.Unit.is_too_long (length c.args.message.now)) c.args.first.now c.args.message.now c.args.second.now
    (g.C.Sponge.state c.args.challenger.now) (g.C.Sponge.state c.observe.new.challenger) c.in_ok-observe.ensures.ok
    (g.C.Sponge.state c.observe_bytes.new.challenger) c.in_ok-observe_bytes.ensures.ok.1
    (g.C.Sponge.state c.observe-2.new.challenger)) c.observe-2.ensures.ok

pub returns-clause-err : goal.returns-clause-err
returns-clause-err g c =
    IfErr-weaker c.observe-2.result _ _ (λ e h. second-refused g.C.Sponge.fed g.C.Sponge.fed_nothing g.C.Sponge.fed_more
    g.D.Codec.observation g.met.D.Codec.is_codec.observes (text g) (text_laws g)
    (g.U.Unit.is_too_long (length c.args.message.now)) c.args.first.now c.args.message.now c.args.second.now
    (g.C.Sponge.state c.args.challenger.now) (g.C.Sponge.state c.observe.new.challenger) c.in_ok-observe.ensures.ok
    (g.C.Sponge.state c.observe_bytes.new.challenger) c.in_ok-observe_bytes.ensures.ok.1
    e (g.C.Sponge.state c.observe-2.new.challenger) h) c.observe-2.ensures.err
