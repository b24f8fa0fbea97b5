-- Laws of the values of a digest.
use Rattle.std.specs.{Prelude.{◌≡◌, ℕ, Bool, length}, Cmp.Lexicographic.{pointwise, pointwise_decides}}
use Rattle.std.proofs.Math.Nat.{ℕ_set}
use Rattle.p3_field_core.specs.Equality.{IsExact, exact-by}
use Rattle.p3_symmetric.specs.{Digests.values_of, declared.hash.Hash.Hash}
use mathlib.Core.HLevel.{is_prop→PathP}

-- digests with the same values are equal
pub values-injective : {F T : Type 0} {N : ℕ} (x y : Hash F T N) → values_of x ≡ values_of y → x ≡ y
values-injective {F} {T} {N} x y same =
    λ i. record {
      value = same i;
      full = is_prop→PathP (λ j. length (same j) ≡ N) (λ j. ℕ_set (length (same j)) N) x.full y.full i;
      field = record {};
    }

-- digests compare equal exactly where they are the same, if values do
pub compared-by-values : {F T : Type 0} {N : ℕ} {eq : T → T → Bool} → IsExact eq
    → IsExact (λ (x y : Hash F T N). pointwise eq (values_of x) (values_of y))
compared-by-values exact = exact-by values_of (pointwise_decides exact) values-injective

-- a digest has a value at each place
pub length-values : {F T : Type 0} {N : ℕ} (digest : Hash F T N) → length (values_of digest) ≡ N
length-values digest = digest.full
