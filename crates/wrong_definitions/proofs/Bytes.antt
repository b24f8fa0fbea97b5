-- That bytes that are written out are bytes.
use Rattle.std.proofs.Common.{◌≡◌, ℕ, zero, suc, ◌<◌, Bool, true, false, List, [], ◌∷◌, T, nat_lt, refl, sym, subst, lit<}
use Rattle.std.proofs.Common.{if◌then◌else◌}
use Rattle.p3_challenger_core.specs.Reading.{AreBytes}

abbrev pub all_bytes : List ℕ → Bool
all_bytes [] = true
all_bytes (x ∷ xs) = if nat_lt x 256 then all_bytes xs else false

first_is_one : (x : ℕ) (rest : Bool) (is : Bool) → nat_lt x 256 ≡ is → (if is then rest else false) ≡ true →
    (x < 256) × (rest ≡ true)
first_is_one x rest true is all = (lit< (subst T (sym is) tt), all)
first_is_one x rest false is all = cc

pub are_bytes : (xs : List ℕ) → all_bytes xs ≡ true → AreBytes xs
are_bytes [] all i = lit< tt
are_bytes (x ∷ xs) all zero = (first_is_one x (all_bytes xs) (nat_lt x 256) refl all).0
are_bytes (x ∷ xs) all (suc i) = are_bytes xs (first_is_one x (all_bytes xs) (nat_lt x 256) refl all).1 i
