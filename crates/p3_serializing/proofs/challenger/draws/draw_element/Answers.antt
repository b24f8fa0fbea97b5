use Rattle.std.proofs.Common.{◌≡◌, ◌<◌, ◌≤◌, ◌%◌, ◌^◌, ℕ, Some, nat_lt, bit_and, sym, ap, ◌∙◌, arith, rules}
use Rattle.std.specs.Option.{option_map}
use Rattle.p3_serializing.specs.SerializingState.{bits_of_order, group, low_bits_of_group}
use Rattle.p3_serializing.specs.SerializingStateLaws.{refused-made_of, low_bits-drawn}
use Rattle.p3_serializing.proofs.Masks.{masked-drawn, below-true, below-false}
use Rattle.p3_grinding.specs.Candidates.{accepted_of}
use Rattle.p3_grinding.specs.CandidateLaws.{seeks-next, seeks-gives, seeks-reached, seeks-none, seeks-refused}
use Rattle.p3_serializing.proofs.challenger.draws.draw_element.Goals as goal

-- the inner challenger refuses a byte
pub returns-in_err-candidate : goal.returns-in_err-candidate
returns-in_err-candidate g c =
    let r = g.F.PrimeCharacteristicRing.residues in
    let sponge = g.Inner.Sponge in
    let d = g.Inner.CanSample.sampling in
    let bits = bits_of_order r.order in
    let e = c.in_err-candidate.field-0.0 in
    let here = sponge.state c.loop.inner in
    let there = sponge.state c.draw_group.new.inner in
    let refused_here = refused-made_of (λ (word : ℕ). word % 2 ^ bits) (group d g.row.BYTES) e here there
    c.in_err-candidate.ensures in
    let candidates = low_bits_of_group d g.row.BYTES bits in
    let accepts = λ (x : ℕ). nat_lt x r.order in
    let start = sponge.state c.args.inner.now in
    let refused = seeks-refused candidates accepts c.args.draw_limit start c.loop.counter here sponge.next
    (low_bits-drawn sponge.next d g.met.Inner.CanSample.samples g.row.BYTES bits) c.loop-test.true c.loop.invariant e
    there refused_here in
    let whole = refused-made_of r.of (accepted_of candidates accepts c.args.draw_limit) e start there refused in
    search (rules, whole)

-- the group is below the order
pub returns-then-candidate-ORDER_U64 : goal.returns-then-candidate-ORDER_U64
returns-then-candidate-ORDER_U64 g c =
    let r = g.F.PrimeCharacteristicRing.residues in
    let drawn = masked-drawn _ _ _ (bits_of_order r.order) c.order_mask-mask.ensures c.in_ok-candidate.ensures.0 in
    let order_is : c.ORDER_U64.result ≡ r.order = c.ORDER_U64.ensures ∙ g.met.F.PrimeField64.order_u64_is in
    let below : bit_and c.in_ok-candidate.field-0 c.order_mask-mask.result < r.order =
    omega (arith, order_is, c.if-candidate-ORDER_U64.true) in (
      ap (option_map r.of) (seeks-gives _ _ _ _ c.loop.counter _ _ _ c.loop-test.true drawn
          c.in_ok-candidate.ensures.1 c.loop.invariant (below-true _ _ below))
          ∙ ap Some (sym c.from_canonical.ensures),
      seeks-reached _ _ _ _ c.loop.counter _ _ _ c.loop-test.true drawn c.in_ok-candidate.ensures.1 c.loop.invariant
          (below-true _ _ below),
    )

-- the group is at or above the order
pub loop-preserved : goal.loop-preserved
loop-preserved g c =
    let r = g.F.PrimeCharacteristicRing.residues in
    let drawn = masked-drawn _ _ _ (bits_of_order r.order) c.order_mask-mask.ensures c.in_ok-candidate.ensures.0 in
    let order_is : c.ORDER_U64.result ≡ r.order = c.ORDER_U64.ensures ∙ g.met.F.PrimeField64.order_u64_is in
    let above : r.order ≤ bit_and c.in_ok-candidate.field-0 c.order_mask-mask.result =
    omega (arith, order_is, c.if-candidate-ORDER_U64.false) in
    seeks-next _ _ _ _ c.loop.counter _ _ _ c.loop-test.true drawn c.in_ok-candidate.ensures.1 c.loop.invariant
    (below-false _ _ above)

-- each group was refused
pub returns : goal.returns
returns g c = seeks-none _ _ _ _ c.loop.counter _ c.loop-test.false c.loop.invariant
