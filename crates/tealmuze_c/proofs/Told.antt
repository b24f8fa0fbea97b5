-- What is written where a protocol was prepared.
use Rattle.std.proofs.Common.{◌≡◌, ℕ, ◌<◌, List, [], ◌∷◌, length, take, slice_set, refl, arith}
use Rattle.tealmuze_calls.specs.Forms.{IsWritten}

-- One byte is written in the place of the first.
pub written_first : (xs : List ℕ) (x : ℕ) → 0 < length xs → IsWritten (x ∷ []) xs 1 (slice_set xs 0 x)
written_first [] x some = absurd (omega (arith, some))
written_first (y ∷ ys) x some = record { wanted = refl; fits = λ _. refl; too_long = λ short. absurd (omega (arith, short)) }

-- and is then the first
pub first_written : (xs : List ℕ) (x : ℕ) → 0 < length xs → take 1 (slice_set xs 0 x) ≡ x ∷ []
first_written [] x some = absurd (omega (arith, some))
first_written (y ∷ ys) x some = refl

-- and no other is
pub not_first : (xs : List ℕ) (x z : ℕ) → 0 < length xs → (x ≡ z → ⊥) → take 1 (slice_set xs 0 x) ≡ z ∷ [] → ⊥
not_first [] x z some other e = absurd (omega (arith, some))
not_first (y ∷ ys) x z some other e = grind arith
