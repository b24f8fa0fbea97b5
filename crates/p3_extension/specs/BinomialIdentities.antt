-- The texts that identify extensions by a root of X^D - W.
use Rattle.std.specs.{Prelude.{ℕ, List, [], ◌++◌, codes, false}, Fmt.digits_onto}

-- a number in decimal, which has at most 39 digits for a number of 128 bits
abbrev pub in_decimal : ℕ → List ℕ
in_decimal n = digits_onto 39 10 false n []

-- `binomial:`, the order, D and W
abbrev pub binomial_identity : ℕ → ℕ → ℕ → List ℕ
binomial_identity order D w = codes "binomial:" ++ in_decimal order ++ codes ":" ++ in_decimal D ++ codes ":" ++ in_decimal w
