use Rattle.std.proofs.Common.{◌≡◌, suc, ◌+◌, ◌/◌, ◌^◌, sym, ap, ap₂, ◌∙◌, arith}
use Rattle.std.proofs.Math.Nat.{div-div-eq-div-mul, pow-suc}
use Rattle.p3_field_bridge.proofs.bridge.FieldBridge.digit.Goals as goal

-- one division more
pub loop-preserved : goal.loop-preserved
loop-preserved g c =
    let order = g.F.PrimeCharacteristicRing.residues.order in
    let n = g.PF.PrimeCharacteristicRing.residues.number c.args.value in
    let i = c.loop.counter in
    let order_is = c.ORDER_U64-order.ensures ∙ g.met.F.PrimeField64.order_u64_is in
    let next : suc i ≡ i + 1 = omega arith in
    ap₂ (λ k o. k / o) c.loop.invariant order_is
    ∙ div-div-eq-div-mul n (order ^ i) order
    ∙ ap (λ p. n / p) (sym (pow-suc order i) ∙ ap (λ k. order ^ k) next)
