use Rattle.std.proofs.Common.{◌≡◌, ◌*◌, ap, arith}
use Rattle.p3_multi_field.proofs.multi_field_challenger.MultiField32Challenger.batch_len.Goals as goal

-- the rate packs at most 255 scalars
pub overflow_mul-result : goal.overflow_mul-result
overflow_mul-result g c =
    let same : c.ABSORB_COUNT.result * g.row.RATE ≡ g.PF.FieldBridge.ABSORB_COUNT * g.row.RATE =
    ap (λ k. k * g.row.RATE) c.ABSORB_COUNT.ensures in
    omega (arith, same, c.self.invariant.count)
