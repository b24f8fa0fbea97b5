-- What a challenger keeps of its numbers, as its calls change them.
use Rattle.std.proofs.Common.{◌≡◌, ℕ, ◌<◌, ◌≤◌, ◌-◌, ◌*◌, ◌/◌, arith}
use Rattle.std.proofs.Math.Nat.{mul-le-mul_left, mul-le-mul_right, div-lt_iff_lt-mul}
use Rattle.p3_multi_field.specs.MultiFieldState.{KeepsNumbers}

-- a product of two numbers that are not 0
pub some_product : (n m : ℕ) → 0 < n → 0 < m → 0 < n * m
some_product n m some_n some_m =
    let one : 1 ≤ m = omega (arith, some_m) in
    let more : n * 1 ≤ n * m = mul-le-mul_left n one in
    omega (arith, more, some_n)

module _ (width rate order greater absorb squeeze : ℕ) where
  abbrev Keeps : ℕ → ℕ → Type 0
  Keeps = KeepsNumbers width rate order greater absorb squeeze

  pub keeps_none : 0 < rate → rate < width → order < greater → 1 ≤ absorb → 1 ≤ squeeze → absorb * rate ≤ 255
      → Keeps 0 0
  keeps_none positive capacity increasing absorb_one squeeze_one counted =
      record {
        positive = positive;
        capacity = capacity;
        increasing = increasing;
        some_packed = omega (arith, absorb_one);
        some_digits = omega (arith, squeeze_one);
        count = counted;
        short = some_product absorb rate (omega (arith, absorb_one)) positive;
        left = omega arith;
        none_left = λ more. absurd (omega (arith, more));
      }

  module _ (scalars outputs_left : ℕ) (keeps : Keeps scalars outputs_left) where
    -- with nothing pending all outputs may be left
    pub keeps_all : (row : ℕ) → scalars ≡ 0 → row ≡ rate * squeeze → Keeps scalars row
    keeps_all row none all =
        record {
          positive = keeps.positive;
          capacity = keeps.capacity;
          increasing = keeps.increasing;
          some_packed = keeps.some_packed;
          some_digits = keeps.some_digits;
          count = keeps.count;
          short = keeps.short;
          left = omega (arith, all);
          none_left = λ some. absurd (omega (arith, some, none));
        }

    -- the rate is at most 255 cells
    pub rate-short : rate ≤ 255
    rate-short =
        let one : 1 ≤ absorb = omega (arith, keeps.some_packed) in
        let more : 1 * rate ≤ absorb * rate = mul-le-mul_right rate one in
        omega (arith, more, keeps.count)

-- few cells of few digits
pub small_row : (rate squeeze : ℕ) → rate ≤ 255 → squeeze < 64 → rate * squeeze < 18446744073709551616
small_row rate squeeze few short =
    let within : squeeze ≤ 63 = omega (arith, short) in
    let a : rate * squeeze ≤ rate * 63 = mul-le-mul_left rate within in
    let b : rate * 63 ≤ 255 * 63 = mul-le-mul_right 63 few in
    omega (arith, a, b)

-- the last output left stands in a cell of the rate
pub place-inside : (rate squeeze left : ℕ) → 0 < rate → 0 < squeeze → left ≤ rate * squeeze
    → (left - 1) / squeeze < rate
place-inside rate squeeze left positive some within =
    let product = some_product rate squeeze positive some in
    let below : left - 1 < rate * squeeze = omega (arith, product, within) in
    (div-lt_iff_lt-mul some).1 below
