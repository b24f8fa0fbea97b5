-- Elements packed into one, the last of them first.
use Rattle.std.proofs.Common.{◌≡◌, ℕ, suc, ◌<◌, ◌≤◌, ◌+◌, ◌-◌, ◌*◌, ◌%◌, ◌^◌, List, [], length, map, drop, get_or}
use Rattle.std.proofs.{Common.{sym, ap, ap₂, ◌∙◌, arith}, Math.Pow.pow-lt, Math.Seq.drop-cons, Math.ListN.drop_of_length-le}
use Rattle.std.proofs.Math.Nat.{add-mod-mod, mod-add-mod, mod-eq_of_lt, mul_comm, pow-suc}
use Rattle.std.proofs.lemmas.Nat.{mul-mod_first, mul-mod_second}
use Rattle.p3_field_core.specs.{Residues.{Residues, IsResidues, sum_of, product_of}, ResidueLaws.of-same}
use Rattle.p3_field_bridge.specs.{Digits.number_in, DigitLaws.number_in-cons}

module _ {P : Type 0} (r : Residues P) (laws : IsResidues r) where
  -- the sum and the product of the elements of numbers are those of their sum and product
  sum_of-of : (n m : ℕ) → sum_of r (r.of n) (r.of m) ≡ r.of (n + m)
  sum_of-of n m =
      of-same r laws (r.number (r.of n) + r.number (r.of m)) (n + m)
      (ap₂ (λ x y. (x + y) % r.order) (laws.number_of n) (laws.number_of m)
      ∙ mod-add-mod n r.order (m % r.order) ∙ add-mod-mod n m r.order)

  product_of-of : (n m : ℕ) → product_of r (r.of n) (r.of m) ≡ r.of (n * m)
  product_of-of n m =
      of-same r laws (r.number (r.of n) * r.number (r.of m)) (n * m)
      (ap₂ (λ x y. (x * y) % r.order) (laws.number_of n) (laws.number_of m)
      ∙ mul-mod_first n (m % r.order) r.order ∙ mul-mod_second n m r.order)

  -- twice the half of a power of two
  pub radix-is : (bits : ℕ) (half radix : P) (n : ℕ) → 1 ≤ bits → half ≡ r.of n → n ≡ 2 ^ (bits - 1)
      → radix ≡ sum_of r half half → radix ≡ r.of (2 ^ bits)
  radix-is bits half radix n some half_is is radix_is =
      let power : 2 ^ (bits - 1) + 2 ^ (bits - 1) ≡ 2 ^ bits =
      let next : suc (bits - 1) ≡ bits = omega arith in
      let double : 2 ^ suc (bits - 1) ≡ 2 ^ (bits - 1) * 2 = pow-suc 2 (bits - 1) in
      let same : 2 ^ suc (bits - 1) ≡ 2 ^ bits = ap (λ k. 2 ^ k) next in
      omega (arith, double, same) in
      let half_of : half ≡ r.of (2 ^ (bits - 1)) = half_is ∙ ap r.of is in
      radix_is
      ∙ ap (λ h. sum_of r h h) half_of
      ∙ sum_of-of (2 ^ (bits - 1)) (2 ^ (bits - 1))
      ∙ ap r.of power

  -- an element more is packed below those so far
  pub packed-more : (base n m : ℕ) (packed radix shifted value sum : P) → packed ≡ r.of n → radix ≡ r.of base
      → shifted ≡ product_of r packed radix → value ≡ r.of m → sum ≡ sum_of r shifted value
      → sum ≡ r.of (base * n + m)
  packed-more base n m packed radix shifted value sum packed_is radix_is shifted_is value_is sum_is =
      let product : shifted ≡ r.of (n * base) =
      shifted_is ∙ ap₂ (product_of r) packed_is radix_is ∙ product_of-of n base in
      sum_is ∙ ap₂ (sum_of r) product value_is ∙ sum_of-of (n * base) m
      ∙ ap (λ k. r.of (k + m)) (mul_comm n base)

-- a bit that is shifted by less than a word's bits
pub shifted_bit : (count bits : ℕ) → count ≡ bits → 1 ≤ bits → bits ≤ 64
    → 1 * 2 ^ (count - 1) % 18446744073709551616 ≡ 2 ^ (bits - 1)
shifted_bit count bits is some most =
    let fewer : bits - 1 < 64 = omega (arith, some, most) in
    let inside : 2 ^ (bits - 1) < 2 ^ 64 = pow-lt fewer in
    let once : 1 * 2 ^ (bits - 1) ≡ 2 ^ (bits - 1) = omega arith in
    ap (λ k. 1 * 2 ^ (k - 1) % 18446744073709551616) is
    ∙ ap (λ n. n % 18446744073709551616) once
    ∙ mod-eq_of_lt inside

-- the number of the last values, with one more
pub number-more : {F : Type 0} (number : F → ℕ) (nought : F) (base i : ℕ) (values : List F) → i < length values
    → base * number_in base (map number (drop (length values - i) values))
    + number (get_or values (length values - 1 - i) nought)
    ≡ number_in base (map number (drop (length values - (i + 1)) values))
number-more number nought base i values inside =
    let place = length values - 1 - i in
    let here : place < length values = omega (arith, inside) in
    let next : suc place ≡ length values - i = omega (arith, inside) in
    let start : place ≡ length values - (i + 1) = omega arith in
    let rest : map number (drop (suc place) values) ≡ map number (drop (length values - i) values) =
    ap (λ k. map number (drop k values)) next in
    let digit = number (get_or values place nought) in
    let split =
    ap (λ k. number_in base (map number (drop k values))) (sym start)
    ∙ ap (λ l. number_in base (map number l)) (drop-cons values place nought here)
    ∙ number_in-cons base digit (map number (drop (suc place) values))
    ∙ ap (λ l. base * number_in base l + digit) rest in
    sym split

-- the number of the last value alone
pub number-last : {F : Type 0} (number : F → ℕ) (nought : F) (base : ℕ) (values : List F) → 0 < length values
    → number (get_or values (length values - 1) nought)
    ≡ number_in base (map number (drop (length values - 1) values))
number-last number nought base values some =
    let none : drop (length values - 0) values ≡ [] = drop_of_length-le values (omega arith) in
    let above : base * number_in base (map number (drop (length values - 0) values)) ≡ 0 =
    ap (λ l. base * number_in base (map number l)) none ∙ omega arith in
    let place : length values - 1 - 0 ≡ length values - 1 = omega arith in
    let last : number (get_or values (length values - 1 - 0) nought) ≡ number (get_or values (length values - 1) nought) =
    ap (λ k. number (get_or values k nought)) place in
    omega (arith, above, last, number-more number nought base 0 values some)
