use Rattle.std.proofs.Common.{◌≡◌, true, Some, sym, ap, subst, ◌∙◌, arith, rules}
use Rattle.p3_challenger_core.specs.BitLaws.{greatest-le}
use Rattle.p3_grinding.specs.Checks.{Finds, IsFirst, MayRunOut, RefusesSearch}
use Rattle.p3_serializing.specs.SerializingState.{state_of}
use Rattle.p3_serializing.proofs.WitnessSearch.{ready_check, inner_check, same-answer}
use Rattle.p3_serializing.proofs.WitnessSearch.{search-refused_as, observe-refused, draw-refused}
use Rattle.p3_serializing.proofs.challenger.witness_search.SerializingChallengerReadySearch.least_when_ready.Goals as goal

pub invariant_of-candidates : goal.invariant_of-candidates
invariant_of-candidates g c =
    record { short = omega (arith, greatest-le g.F.PrimeCharacteristicRing.residues.order 63, c.requires) }

-- the inner challenger's search is refused
pub returns-in_err-candidate-clause-err : goal.returns-in_err-candidate-clause-err
returns-in_err-candidate-clause-err g c =
    let o = g.Inner.CanObserve.observation in
    let slice_may_leave = g.Inner.CanObserve.slice_may_leave in
    let d = g.Inner.CanSample.sampling in
    let r = g.F.PrimeCharacteristicRing.residues in
    let bits = c.args.bits in
    let clones = g.Inner.CanCopy.copies_may_fail in
    let state = state_of g.Inner.Sponge.state in
    let check = ready_check o slice_may_leave d r g.row.BYTES bits in
    let e = c.in_err-candidate.field-0.0 in
    let refused = subst (λ v. RefusesSearch r (MayRunOut clones check) check e (state v) (state v)) c.self.view_is
    (search-refused_as o slice_may_leave d r g.row.BYTES bits clones
    (state (record { inner = c.self.inside.inner; draw_limit = c.self.inside.draw_limit })) e
    c.in_err-candidate.ensures.err) in
    search (rules, refused)

-- the witness is refused
pub returns-in_err-feed_element-in-Some-clause-err : goal.returns-in_err-feed_element-in-Some-clause-err
returns-in_err-feed_element-in-Some-clause-err g c =
    let state = state_of g.Inner.Sponge.state in
    let refused = observe-refused g.Inner.CanObserve.observation g.Inner.CanObserve.slice_may_leave
    g.Inner.CanSample.sampling g.F.PrimeCharacteristicRing.residues g.row.BYTES c.args.bits
    g.Inner.CanCopy.copies_may_fail (state c.args.self.now) c.from_canonical-witness.result
    c.in_err-feed_element-in-Some.field-0.0 (state c.feed_element.new.self)
    c.in_err-feed_element-in-Some.ensures in
    search (rules, refused)

-- the group after it is refused
pub returns-in_err-sample_bits-in-Some-clause-err : goal.returns-in_err-sample_bits-in-Some-clause-err
returns-in_err-sample_bits-in-Some-clause-err g c =
    let o = g.Inner.CanObserve.observation in
    let slice_may_leave = g.Inner.CanObserve.slice_may_leave in
    let d = g.Inner.CanSample.sampling in
    let r = g.F.PrimeCharacteristicRing.residues in
    let bits = c.args.bits in
    let state = state_of g.Inner.Sponge.state in
    let inside = state (record { inner = c.self.inside.inner; draw_limit = c.self.inside.draw_limit }) in
    let start = state c.args.self.now in
    let same : inside ≡ start = ap state c.self.view_is in
    let check = ready_check o slice_may_leave d r g.row.BYTES bits in
    let inner = inner_check o slice_may_leave d r g.row.BYTES bits in
    let witness = c.from_canonical-witness.result in
    let candidate = c.in-Some.candidate in
    let found : IsFirst inner inside.inner c.ORDER_U64.result candidate =
    subst (Finds inner inside.inner c.ORDER_U64.result) c.in-Some.is c.in_ok-candidate.ensures.found in
    let passes : (check witness).sampled start ≡ Some true =
    ap (λ w. (check w).sampled start) c.from_canonical-witness.ensures
    ∙ ap (check (r.of candidate)).sampled (sym same)
    ∙ same-answer o slice_may_leave d r g.row.BYTES bits inside candidate
    ∙ found.passes in
    let refused = draw-refused o slice_may_leave d r g.row.BYTES bits g.Inner.CanCopy.copies_may_fail start
    g.Inner.Sponge.next g.met.Inner.CanSample.samples witness c.in_err-sample_bits-in-Some.field-0.0
    (state c.feed_element.new.self) (state c.sample_bits.new.self) c.in_ok-feed_element-in-Some.ensures passes
    c.in_err-sample_bits-in-Some.ensures.err in
    search (rules, refused)
