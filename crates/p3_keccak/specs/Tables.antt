-- The procedures by which FIPS 202 generates the two tables of Keccak-f[1600].
use Rattle.std.specs.{Prelude.{ℕ, zero, suc, ◌+◌, ◌-◌, ◌*◌, ◌/◌, ◌%◌, ◌^◌, List, bit_xor, cond, map, nat_eq, replicate, slice_set}, List.range_with_len}

-- the walk over the lanes of Algorithm 2 (3.2.2, steps 2 and 3), from lane (x, y) at step t. Each of n more steps
-- writes the offset of its lane into the table
unfoldable pub walk : ℕ → ℕ → ℕ → ℕ → List ℕ → List ℕ
walk zero t x y table = table
walk (suc n) t x y table =
    walk n (t + 1) y ((2 * x + 3 * y) % 5) (slice_set table (5 * y + x) ((t + 1) * (t + 2) / 2))

-- the offsets of ρ by Algorithm 2; lane (0, 0), which the walk does not reach, has offset 0
abbrev pub offsets_of_walk : List ℕ
offsets_of_walk = walk 24 0 1 0 (replicate 25 0)

-- R after a step of Algorithm 5 (3.2.5), as a number whose bit i is R[i]. Bit 8 is added to bits 0, 4, 5 and 6, and
-- dropped from R
unfoldable pub register_step : ℕ → ℕ
register_step r = cond (nat_eq (r / 2 ^ 7) 1) (bit_xor (r * 2 % 2 ^ 8) 0x71) (r * 2)

-- R after t steps
unfoldable pub register : ℕ → ℕ
register zero = 1
register (suc t) = register_step (register t)

-- rc(t), the output of Algorithm 5, for t below 255
abbrev pub rc : ℕ → ℕ
rc t = register t % 2

-- RC of round i by Algorithm 6 (3.2.5): for each j below n, bit 2 ^ j - 1 is rc(j + 7 i)
unfoldable pub round_constant : ℕ → ℕ → ℕ
round_constant i zero = 0
round_constant i (suc j) = round_constant i j + rc (j + 7 * i) * 2 ^ (2 ^ j - 1)

-- RC of each round
abbrev pub round_constants_of_register : List ℕ
round_constants_of_register = map (λ i. round_constant i 7) (range_with_len 0 24)
