-- Numbers by their digits in a base, lowest digit first.
use Rattle.std.specs.Prelude.{ℕ, suc, ◌+◌, ◌*◌, ◌/◌, ◌%◌, ◌^◌, List, [], ◌∷◌}

-- the sum of digits from a place on, each times the power of the base at its place
abbrev pub digit_sum : ℕ → ℕ → List ℕ → ℕ
digit_sum base place [] = 0
digit_sum base place (digit ∷ digits) = digit * base ^ place + digit_sum base (suc place) digits

-- the number of a list of digits
abbrev pub number_in : ℕ → List ℕ → ℕ
number_in base digits = digit_sum base 0 digits

-- the digit of a number at a place
abbrev pub digit_at : ℕ → ℕ → ℕ → ℕ
digit_at base n place = n / base ^ place % base
