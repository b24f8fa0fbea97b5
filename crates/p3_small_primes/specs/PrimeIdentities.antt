-- The texts that identify prime fields.
use Rattle.std.specs.{Prelude.{ℕ, List, [], ◌++◌, codes, false}, Fmt.digits_onto}

-- `prime:` and the order in decimal, which has at most ten digits for a number of 32 bits
abbrev pub prime_identity : ℕ → List ℕ
prime_identity order = codes "prime:" ++ digits_onto 10 10 false order []
