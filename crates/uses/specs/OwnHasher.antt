-- A hash function of bytes, as an example.
use Rattle.std.specs.Prelude.{ℕ, zero, suc, ◌+◌, ◌*◌, ◌%◌, ◌^◌, ◌<◌, List, [], ◌∷◌, length, replicate, slice_index}
use Rattle.std.proofs.{Common.{refl, arith}, Math.Nat.mod-lt}
use Rattle.p3_challenger.specs.Digests.{IsDigest}

-- the value at 31 of the polynomial with these coefficients, highest first
abbrev pub polynomial : List ℕ → ℕ
polynomial [] = 0
polynomial (x ∷ xs) = x * 31 ^ length xs + polynomial xs

-- each place of the digest has that value modulo 256
abbrev pub polynomial_digest : List ℕ → List ℕ
polynomial_digest message = replicate 32 (polynomial message % 256)

places-bytes : (n x i : ℕ) → x < 256 → slice_index (replicate n x) i < 256
places-bytes zero x i below = omega arith
places-bytes (suc n) x zero below = below
places-bytes (suc n) x (suc i) below = places-bytes n x i below

-- each digest of the polynomial is a digest of bytes
pub polynomial-is_digest : (message : List ℕ) → IsDigest (polynomial_digest message)
polynomial-is_digest message =
    record {
      places = refl;
      bytes = λ i. places-bytes 32 (polynomial message % 256) i (mod-lt (polynomial message) (omega arith));
    }
