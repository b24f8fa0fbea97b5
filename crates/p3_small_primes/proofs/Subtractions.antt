-- One subtraction in the place of a division.
use Rattle.std.proofs.Common.{◌≡◌, ℕ, ◌-◌, ◌*◌, ◌%◌, ◌<◌, ◌≤◌, ◌∙◌, sym, arith}
use Rattle.std.proofs.Math.Nat.{mod-eq_of_lt, mod-eq-sub-mod}

-- of a number below twice the order, one subtraction leaves what a division does
pub less_order : (n order : ℕ) → order ≤ n → n < 2 * order → n - order ≡ n % order
less_order n order above below = sym (mod-eq-sub-mod above ∙ mod-eq_of_lt (omega arith))
