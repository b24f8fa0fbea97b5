-- The count of a bounded step takes the least number of bytes, which determine the count.
use Rattle.std.proofs.Common.{◌≡◌, ℕ, zero, suc, ◌+◌, ◌^◌, ◌<◌, ◌≤◌, Bool, true, false, nat_lt, if◌then◌else◌, refl}
use Rattle.std.proofs.{Common.{sym, subst, add-zero, arith}, lemmas.Bool.Decides.nat_tests}
use Rattle.p3_fs_core.specs.BigEndian.{least_width, count_width}

is_below : (n m : ℕ) → nat_lt n m ≡ true → n < m
is_below n m h = grind (arith, nat_tests)

at_least : (n m : ℕ) → nat_lt n m ≡ false → m ≤ n
at_least n m h = grind (arith, nat_tests)

-- a width that is too small is below every width that is enough
passes : (max width r : ℕ) → width ≤ r → max < 256 ^ r → 256 ^ width ≤ max → width + 1 ≤ r
passes max width r from enough more =
    let differs : width ≡ r → ⊥ = λ same. let large : 256 ^ r ≤ max = rw (sym same) more in omega arith in
    omega (arith, differs)

least_width-enough : (more width max : ℕ) → max < 256 ^ (width + more) → max < 256 ^ least_width more width max
least_width-enough zero width max fits = subst (λ (w : ℕ). max < 256 ^ w) (add-zero width) fits
least_width-enough (suc more) width max fits =
    let next : width + suc more ≡ width + 1 + more = omega arith in
    let by_test : (b : Bool) → nat_lt max (256 ^ width) ≡ b →
    max < 256 ^ (if b then width else least_width more (width + 1) max)
    = elim [
      | true ↦ λ test. is_below max (256 ^ width) test
      | false ↦ λ test. least_width-enough more (width + 1) max (subst (λ (w : ℕ). max < 256 ^ w) next fits)
    ] in
    by_test (nat_lt max (256 ^ width)) refl

least_width-least : (more width max r : ℕ) → width ≤ r → max < 256 ^ r → least_width more width max ≤ r
least_width-least zero width max r from enough = from
least_width-least (suc more) width max r from enough =
    let by_test : (b : Bool) → nat_lt max (256 ^ width) ≡ b →
    (if b then width else least_width more (width + 1) max) ≤ r
    = elim [
      | true ↦ λ test. from
      | false ↦ λ test. least_width-least more (width + 1) max r
          (passes max width r from enough (at_least max (256 ^ width) test)) enough
    ] in
    by_test (nat_lt max (256 ^ width)) refl

least_width-most : (more width max : ℕ) → least_width more width max ≤ width + more
least_width-most zero width max = omega arith
least_width-most (suc more) width max =
    let by_test : (b : Bool) → nat_lt max (256 ^ width) ≡ b →
    (if b then width else least_width more (width + 1) max) ≤ width + suc more
    = elim [
      | true ↦ λ test. omega arith
      | false ↦ λ test. let within = least_width-most more (width + 1) max in omega arith
    ] in
    by_test (nat_lt max (256 ^ width)) refl

-- the width holds every number up to the greatest
pub count_width-enough : (max : ℕ) → max < 2 ^ 64 → max < 256 ^ count_width max
unfolding count_width
count_width-enough max fits = least_width-enough 8 0 max fits

-- no smaller width holds the greatest
pub count_width-least : (max width : ℕ) → max < 256 ^ width → count_width max ≤ width
unfolding count_width
count_width-least max width enough = least_width-least 8 0 max width (omega arith) enough

pub count_width-most : (max : ℕ) → count_width max ≤ 8
unfolding count_width
count_width-most max = least_width-most 8 0 max
