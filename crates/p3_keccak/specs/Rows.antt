-- A round, row by row of its result: each row comes from five lanes of the state.
use Rattle.std.specs.Prelude.{ℕ, List, [], ◌∷◌, bit_and, bit_xor, slice_index}
use Rattle.std.specs.Int.{w64, bit_not, rotate_left}
use Rattle.p3_keccak.specs.Keccak.{theta_effect}

-- D[0] to D[4] of θ
abbrev pub theta_effects : List ℕ → List ℕ
theta_effects a =
    theta_effect a 0 ∷ theta_effect a 1 ∷ theta_effect a 2 ∷ theta_effect a 3 ∷ theta_effect a 4 ∷ []

-- a lane after χ, computed from that lane and the two after it in its row
abbrev pub chi_lane : ℕ → ℕ → ℕ → ℕ
chi_lane b next after = bit_xor b (bit_and (bit_not w64 next) after)

-- χ of a row
abbrev pub chi_row : ℕ → ℕ → ℕ → ℕ → ℕ → List ℕ
chi_row b0 b1 b2 b3 b4 =
    chi_lane b0 b1 b2 ∷ chi_lane b1 b2 b3 ∷ chi_lane b2 b3 b4 ∷ chi_lane b3 b4 b0 ∷ chi_lane b4 b0 b1 ∷ []

-- lane i of five, with the addition of θ, rotated by offset i of five
abbrev pub moved_lane : List ℕ → List ℕ → List ℕ → ℕ → ℕ
moved_lane lanes effects by i =
    rotate_left w64 (bit_xor (slice_index lanes i) (slice_index effects i)) (slice_index by i)

-- the row that θ, ρ and χ make of the five lanes that π moves into it
unfoldable pub row_of : List ℕ → List ℕ → List ℕ → List ℕ
row_of lanes effects by =
    chi_row (moved_lane lanes effects by 0) (moved_lane lanes effects by 1) (moved_lane lanes effects by 2)
    (moved_lane lanes effects by 3) (moved_lane lanes effects by 4)

-- five words, the second and the fourth complemented
abbrev pub two_complemented : List ℕ → List ℕ
two_complemented words =
    slice_index words 0 ∷ bit_not w64 (slice_index words 1) ∷ slice_index words 2 ∷ bit_not w64 (slice_index words 3)
    ∷ slice_index words 4 ∷ []
