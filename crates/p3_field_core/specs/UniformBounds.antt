-- Numbers whose low bits are uniform.
use Rattle.std.specs.{Prelude.{ℕ, ◌*◌, ◌/◌, ◌%◌, ◌^◌, nat_eq}, List.{count_by, range_with_len}}

-- the greatest multiple of a power of two that is at most the order; below it each value of the low bits occurs
-- equally often
abbrev pub uniform_bound : ℕ → ℕ → ℕ
uniform_bound order bits = 2 ^ bits * (order / 2 ^ bits)

-- how many numbers below a bound have a value as their low bits
abbrev pub how_many_have : ℕ → ℕ → ℕ → ℕ
how_many_have bound bits value = count_by (λ n. nat_eq (n % 2 ^ bits) value) (range_with_len 0 bound)
