-- Digests are told apart by the numbers of their words.
use Rattle.std.specs.Prelude.{◌≡◌, ℕ, List, [], ◌∷◌, length, map, refl}
use Rattle.std.specs.Prelude.{◌<◌}
use Rattle.std.proofs.{Common.{ap, ap₂, arith}, Math.Bridge.le_prop}
use mathlib.Core.HLevel.{is_prop→PathP}
use Rattle.p3_field.specs.{SmallPrime.SmallPrime, Goldilocks.Goldilocks}

pub numbers-one : {T : Type 0} (number : T → ℕ) → ((one other : T) → number one ≡ number other → one ≡ other) →
    (xs ys : List T) → map number xs ≡ map number ys → xs ≡ ys
numbers-one number one [] [] same = refl
numbers-one number one [] (y ∷ ys) same = absurd (omega (arith, ap (λ ns. length ns) same))
numbers-one number one (x ∷ xs) [] same = absurd (omega (arith, ap (λ ns. length ns) same))
numbers-one number one (x ∷ xs) (y ∷ ys) same =
    let first : number x ≡ number y = cc in
    let rest : map number xs ≡ map number ys = cc in
    ap₂ (λ z zs. z ∷ zs) (one x y first) (numbers-one number one xs ys rest)

-- elements with the same number are equal
pub small_prime-one : {order : ℕ} (x y : SmallPrime order) → x.value ≡ y.value → x ≡ y
small_prime-one {order} x y e =
    λ i. record {
      value = e i;
      canonical = is_prop→PathP (λ j. e j < order) (λ j. le_prop) x.canonical y.canonical i;
    }

pub goldilocks-one : (x y : Goldilocks) → x.value ≡ y.value → x ≡ y
goldilocks-one x y e =
    λ i. record {
      value = e i;
      canonical = is_prop→PathP (λ j. e j < 18446744069414584321) (λ j. le_prop) x.canonical y.canonical i;
    }
