-- What is printed of a proof that was accepted.
use Rattle.std.specs.{Prelude.{ℕ, List, [], ◌∷◌, ◌++◌, codes, flat_map}, Fmt.decimal}
use Rattle.hex.specs.Hex.{encode_lower}
use Rattle.p3_field.specs.BabyBearResidues.{BabyBear, residues}

-- each item after a space: a number, a scalar's number; and all bytes in hexadecimal, which are no item if there are none
abbrev pub number_items : List ℕ → List ℕ
number_items numbers = flat_map (λ n. 32 ∷ decimal n) numbers

abbrev pub scalar_items : List BabyBear → List ℕ
scalar_items scalars = flat_map (λ x. 32 ∷ decimal (residues.number x)) scalars

abbrev pub byte_items : List ℕ → List ℕ
byte_items [] = []
byte_items (byte ∷ bytes) = 32 ∷ encode_lower (byte ∷ bytes)

-- the lines
abbrev pub report : List BabyBear → List BabyBear → List ℕ → List ℕ → List ℕ
report values alpha note indices =
    codes "accepted"
    ++ 10 ∷ (codes "values" ++ (scalar_items values
    ++ 10 ∷ (codes "alpha" ++ (scalar_items alpha
    ++ 10 ∷ (codes "note" ++ (byte_items note
    ++ 10 ∷ (codes "indices" ++ (number_items indices ++ 10 ∷ []))))))))
