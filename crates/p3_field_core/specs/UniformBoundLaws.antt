-- Laws of the bounds of uniform bits.
use Rattle.std.proofs.{Common.{◌≡◌, ℕ, ◌<◌, ◌≤◌, ◌+◌, ◌*◌, ◌/◌, ◌%◌, ◌^◌, ap, ◌∙◌, inl, inr}, Common.{arith, pow_mono}}
use Rattle.std.proofs.lemmas.{Bool.cases_lt, Nat.pow_pos}
use Rattle.std.proofs.Math.Nat.{mul-div-le, mul-mod_right, div-eq_of_lt, lt-mul-div-succ, mul-le-mul_left}
use Rattle.p3_field_core.specs.{UniformBounds.{uniform_bound, how_many_have}, RemainderLaws.counted-whole}

pub bound-within : (order bits : ℕ) → uniform_bound order bits ≤ order
bound-within order bits = mul-div-le order (2 ^ bits)

pub bound-whole : (order bits : ℕ) → uniform_bound order bits % 2 ^ bits ≡ 0
bound-whole order bits = mul-mod_right (2 ^ bits) (order / 2 ^ bits)

-- the bound is positive if the power of two is at most the order
pub bound-positive : (order bits most : ℕ) → 2 ^ most ≤ order → bits ≤ most → 0 < uniform_bound order bits
bound-positive order bits most within few =
    let power = 2 ^ bits in
    let some : 0 < power = pow_pos bits in
    let grown : power ≤ 2 ^ most = pow_mono few in
    elim (cases_lt 0 (order / power)) [
      | inl once ↦
          let one : 1 ≤ order / power = omega (arith, once) in
          let more : power * 1 ≤ power * (order / power) = mul-le-mul_left power one in
          omega (arith, some, more)
      | inr none ↦
          let no_more : order / power + 1 ≤ 1 = omega (arith, none) in
          let below : order < power * (order / power + 1) = lt-mul-div-succ order some in
          let least : power * (order / power + 1) ≤ power * 1 = mul-le-mul_left power no_more in
          absurd (omega (arith, below, least, grown, within))
    ]

-- for at least 64 bits the bound is 0
pub bound-none : (order bits : ℕ) → order < 2 ^ 64 → 64 ≤ bits → uniform_bound order bits ≡ 0
bound-none order bits fits many =
    let grown : 2 ^ 64 ≤ 2 ^ bits = pow_mono many in
    let none : order / 2 ^ bits ≡ 0 = div-eq_of_lt (omega (arith, grown, fits)) in
    let nothing : 2 ^ bits * 0 ≡ 0 = omega arith in
    ap (λ q. 2 ^ bits * q) none ∙ nothing

-- each value of the low bits comes from equally many numbers below the bound: the bound divided by
-- the power of two
pub bound-shared : (order bits value : ℕ) → value < 2 ^ bits
    → how_many_have (uniform_bound order bits) bits value ≡ uniform_bound order bits / 2 ^ bits
bound-shared order bits value small =
    counted-whole (2 ^ bits) value small (uniform_bound order bits) (bound-whole order bits)
