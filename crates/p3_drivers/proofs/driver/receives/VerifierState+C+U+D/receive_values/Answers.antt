use Rattle.std.proofs.Common.{◌+◌, ◌-◌, [], inl, refl, sym, ap, ◌∙◌, ◌≡◌, subst, arith, map}
use Rattle.std.proofs.lemmas.Result.{err_from_is_err_and}
use Rattle.p3_challenger_core.specs.Observation.{RefusesObserve}
use Rattle.p3_driver_core.specs.{Bound.bound_value, BoundLaws.values-more}
use Rattle.p3_drivers.proofs.ValuesInTurn.{ReadsOn, reads_on-start, reads_on-next, reads_on-all, reads_on-one_left}
use Rattle.p3_drivers.proofs.ValuesInTurn.{reads_on-none_left, enough, enough-read, short-read, fails-in_list}
use Rattle.p3_drivers.proofs.ValuesInTurn.{refused-in_list}
use Rattle.p3_driver_core.specs.Reads as reads
use Rattle.p3_drivers.proofs.driver.receives.VerifierState+C+U+D.receive_values.Goals as goal

pub returns-then-not-holds-clause-read : goal.returns-then-not-holds-clause-read
returns-then-not-holds-clause-read g c = (
  record { reason = reads.too_many_values; left = c.args.self.now.tape.bytes.now; absorbed = λ s. s },
  short-read g.Cdc.Codec.encoding g.Cdc.Codec.observation c.args.n c.args.self.now.tape.bytes.now c.holds.result
      c.wire_len.result c.holds.ensures.1 c.if-not-holds.true c.wire_len.ensures,
  refl,
  refl,
  refl,
)

pub returns-in_err-bounds-clause-read : goal.returns-in_err-bounds-clause-read
returns-in_err-bounds-clause-read g c =
    let p = err_from_is_err_and c.from_residual.result c.from_residual.ensures.1 in
    rw (p.1, p.2) (
      enough g.Cdc.Codec.encoding g.Cdc.Codec.observation c.args.n c.args.self.now.tape.bytes.now c.holds.result
          c.wire_len.result c.holds.ensures.0 c.if-not-holds.false c.wire_len.ensures,
      inl (refl, refl),
    )

pub loop-init : goal.loop-init
loop-init g c =
    let e = g.Cdc.Codec.encoding in
    let o = g.Cdc.Codec.observation in
    let bytes = c.args.self.now.tape.bytes.now in
    let s = g.C.Sponge.state c.args.self.now.challenger in
    let all : c.args.n ≡ c.args.n - 0 = omega arith in
    record {
      on = subst (λ xs. ReadsOn e o c.args.n bytes s xs (c.args.n - 0) bytes s)
          (sym (ap (map bound_value) c.in_ok-bounds.ensures.items))
          (subst (λ k. ReadsOn e o c.args.n bytes s [] k bytes s) all (reads_on-start e o c.args.n bytes s));
      steps = refl;
      count = c.in_ok-bounds.ensures.len;
      room = c.in_ok-bounds.ensures.exact;
    }

pub returns-in_err-value-clause-read : goal.returns-in_err-value-clause-read
returns-in_err-value-clause-read g c =
    let p = err_from_is_err_and c.from_residual-in_err-value.result c.from_residual-in_err-value.ensures.1 in
    let e = g.Cdc.Codec.encoding in
    let o = g.Cdc.Codec.observation in
    let state = g.C.Sponge.state in
    let bytes = c.args.self.now.tape.bytes.now in
    let s = state c.args.self.now.challenger in
    let xs = map bound_value c.loop.bounds.items in
    let here = c.loop.self.tape.bytes.now in
    let t = state c.loop.self.challenger in
    rw (p.1, p.2) (fails-in_list e o c.args.n bytes s xs (c.args.n - (c.loop.counter + 1))
    here t (reads_on-one_left e o c.args.n bytes s xs c.loop.counter here t c.loop-test.true c.loop.invariant.on)
    (enough-read e o c.args.n bytes c.holds.result c.wire_len.result c.holds.ensures.0 c.if-not-holds.false
    c.wire_len.ensures) c.read_value.new.self.tape.bytes.now (state c.read_value.new.self.challenger)
    c.in_err-value.field-0.0 c.in_err-value.ensures.read (ap state c.in_err-value.ensures.challenger))

pub returns-in_err-observe-clause-read : goal.returns-in_err-observe-clause-read
returns-in_err-observe-clause-read g c =
    let p = err_from_is_err_and c.from_residual-in_err-observe.result c.from_residual-in_err-observe.ensures.1 in
    let e = g.Cdc.Codec.encoding in
    let o = g.Cdc.Codec.observation in
    let state = g.C.Sponge.state in
    let bytes = c.args.self.now.tape.bytes.now in
    let s = state c.args.self.now.challenger in
    let xs = map bound_value c.loop.bounds.items in
    let here = c.loop.self.tape.bytes.now in
    let t = state c.loop.self.challenger in
    let u = state c.observe.new.challenger in
    let err = c.in_err-observe.field-0.0 in
    rw (p.1, p.2) (refused-in_list e o c.args.n bytes s xs (c.args.n - (c.loop.counter + 1))
    here t (reads_on-one_left e o c.args.n bytes s xs c.loop.counter here t c.loop-test.true c.loop.invariant.on)
    c.read_value.new.self.tape.bytes.now u c.in_ok-value.value err (enough
    e o c.args.n bytes c.holds.result c.wire_len.result c.holds.ensures.0 c.if-not-holds.false c.wire_len.ensures)
    c.in_ok-value.ensures.read (subst (λ w. RefusesObserve (o.may_leave w c.in_ok-value.value) err u)
    (ap state c.in_ok-value.ensures.challenger) c.in_err-observe.ensures.err))

pub loop-preserved : goal.loop-preserved
loop-preserved g c =
    let e = g.Cdc.Codec.encoding in
    let o = g.Cdc.Codec.observation in
    let state = g.C.Sponge.state in
    let bytes = c.args.self.now.tape.bytes.now in
    let s = state c.args.self.now.challenger in
    let xs = map bound_value c.loop.bounds.items in
    let here = c.loop.self.tape.bytes.now in
    let t = state c.loop.self.challenger in
    let x = c.in_ok-value.value in
    let i = c.loop.counter in
    let same = ap state c.in_ok-value.ensures.challenger in
    record {
      on = subst (λ ys. ReadsOn e o c.args.n bytes s ys (c.args.n - (i + 1)) c.read_value.new.self.tape.bytes.now
          (state c.observe.new.challenger)) (sym (values-more c.loop.bounds.items c.push_reserved.new.self.items
          c.bind.result x c.push_reserved.ensures.items c.bind.ensures)) (reads_on-next e o c.args.n
          bytes s xs (c.args.n - (i + 1)) here c.read_value.new.self.tape.bytes.now t (state c.observe.new.challenger)
          x c.in_ok-value.ensures.read (c.in_ok-observe.ensures.ok ∙ ap (λ w. o.observed w x) same)
          (reads_on-one_left e o c.args.n bytes s xs i here t c.loop-test.true c.loop.invariant.on));
      steps = c.in_ok-value.ensures.steps ∙ c.loop.invariant.steps;
      count = c.push_reserved.ensures.len ∙ ap (λ k. k + 1) c.loop.invariant.count;
      room = c.push_reserved.ensures.capacity ∙ c.loop.invariant.room;
    }

pub push_reserved-requires : goal.push_reserved-requires
push_reserved-requires g c = omega (arith, c.loop.invariant.count, c.loop.invariant.room, c.loop-test.true)

pub returns-clause-read : goal.returns-clause-read
returns-clause-read g c =
    let e = g.Cdc.Codec.encoding in
    let o = g.Cdc.Codec.observation in
    let state = g.C.Sponge.state in
    let bytes = c.args.self.now.tape.bytes.now in
    let s = state c.args.self.now.challenger in
    let xs = map bound_value c.loop.bounds.items in
    let here = c.loop.self.tape.bytes.now in
    let t = state c.loop.self.challenger in
    let on = reads_on-none_left e o c.args.n bytes s xs c.loop.counter here t c.loop-test.false c.loop.invariant.on in (
      enough-read e o c.args.n bytes c.holds.result c.wire_len.result c.holds.ensures.0 c.if-not-holds.false
          c.wire_len.ensures ∙ reads_on-all e o c.args.n bytes s xs here t on,
      on.observed,
    )
