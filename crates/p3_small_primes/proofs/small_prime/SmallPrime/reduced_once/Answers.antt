use Rattle.std.proofs.{Common.{◌≡◌, ◌%◌, ◌∙◌, sym, arith}, Math.Nat.mod-eq_of_lt}
use Rattle.p3_small_primes.{proofs.Subtractions.less_order, specs.SmallPrimeLaws.number-injective}
use Rattle.p3_small_primes.proofs.small_prime.SmallPrime.reduced_once.Goals.{then-value, else-value}
use Rattle.p3_small_primes.proofs.small_prime.SmallPrime.reduced_once.Goals as goal

pub returns : goal.returns
returns g c =
    let order = g.row.ORDER in
    let n = c.args.value in
    let left : c.if-value.value ≡ n % order =
    elim c.if-value.branch [
      | then-value w ↦ w.value-is ∙ sym (mod-eq_of_lt (omega arith))
      | else-value w ↦ w.value-is ∙ less_order n order (omega arith) c.requires
    ]
    in
    number-injective _ _ left
