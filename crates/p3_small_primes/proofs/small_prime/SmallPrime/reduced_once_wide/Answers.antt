use Rattle.std.proofs.{Common.{◌≡◌, ◌-◌, ◌%◌, ◌∙◌, sym, ap, arith}, Math.Nat.mod-eq_of_lt}
use Rattle.p3_small_primes.{proofs.Subtractions.less_order, specs.SmallPrimeLaws.number-injective}
use Rattle.p3_small_primes.proofs.small_prime.SmallPrime.reduced_once_wide.Goals.{then-value-order, else-value-order}
use Rattle.p3_small_primes.proofs.small_prime.SmallPrime.reduced_once_wide.Goals as goal

pub returns : goal.returns
returns g c =
    let order = g.row.ORDER in
    let n = c.args.value in
    let left : c.if-value-order.value ≡ n % order =
    elim c.if-value-order.branch [
      | then-value-order w ↦ w.value-is ∙ sym (mod-eq_of_lt (omega arith))
      | else-value-order w ↦ w.value-is ∙ ap (λ k. n - k) c.from-order.ensures
          ∙ less_order n order (omega arith) c.requires
    ]
    in
    number-injective _ _ left
