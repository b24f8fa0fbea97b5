-- Words cut to some bits.
use Rattle.std.proofs.Common.{◌≡◌, ℕ, zero, suc, ◌<◌, ◌≤◌, ◌+◌, ◌-◌, ◌*◌, ◌/◌, ◌%◌, ◌^◌, true, false, nat_lt, Option}
use Rattle.std.{proofs.Common.{Some, sym, ap, ◌∙◌, arith, bit_and}, specs.Option.option_map}
use Rattle.std.proofs.{lemmas.{Bool.Decides.nat_tests, Nat.{and_mask, pow-add, pow_pos, shr_high}}, Math.Nat.suc-mul}
use Rattle.p3_challenger_core.specs.{Sampling.greatest_below, BitLaws.greatest-log}
use Rattle.p3_serializing.specs.SerializingState.{bits_of_order}

-- so many bits are set, where all bits above them are shifted out
set_bits : (p q b : ℕ) → 0 < b → p ≡ suc q → p * b ≡ 2 ^ 64 → q * b + (b - 1) ≡ 2 ^ 64 - 1
set_bits p q b positive is whole =
    let product : suc q * b ≡ q * b + b = suc-mul q b in
    let all : suc q * b ≡ 2 ^ 64 = ap (λ n. n * b) (sym is) ∙ whole in
    omega (arith, product, all, positive)

pub shifted_out : (k : ℕ) → k ≤ 64 → (2 ^ 64 - 1) / 2 ^ (64 - k) ≡ 2 ^ k - 1
shifted_out k fits =
    let j = 64 - k in
    let power : 2 ^ k * 2 ^ j ≡ 2 ^ 64 =
    sym (pow-add 2 k j) ∙ ap (λ n. 2 ^ n) (let e : k + (64 - k) ≡ 64 = omega arith in e) in
    let one_less : 2 ^ k ≡ suc (2 ^ k - 1) = omega (arith, pow_pos k) in
    let below : 2 ^ j - 1 < 2 ^ j = omega (arith, pow_pos j) in
    ap (λ n. n / 2 ^ j) (sym (set_bits (2 ^ k) (2 ^ k - 1) (2 ^ j) (pow_pos j) one_less power))
    ∙ shr_high (2 ^ k - 1) j (2 ^ j - 1) below

-- the least number of bits that an order fits in is that of the definition
pub log-is : (order log : ℕ) → 1 < order → order < 2 ^ 64 → order ≤ 2 ^ log → ((k : ℕ) → order ≤ 2 ^ k → log ≤ k)
    → log ≡ bits_of_order order
log-is order zero above fits enough least = absurd (omega (arith, enough, above))
log-is order (suc log) above fits enough least =
    let most : suc log - 1 ≡ greatest_below order 63 = greatest-log order (suc log) above fits enough least in
    let count : suc log ≡ greatest_below order 63 + 1 = omega (arith, most) in
    count

pub masked : (word mask bits : ℕ) → mask ≡ 2 ^ bits - 1 → bit_and word mask ≡ word % 2 ^ bits
masked word mask bits is = ap (bit_and word) is ∙ and_mask word bits

-- where a word was drawn, so were its low bits
pub masked-drawn : (drawn : Option ℕ) (word mask bits : ℕ) → mask ≡ 2 ^ bits - 1 → drawn ≡ Some word
    → option_map (λ n. n % 2 ^ bits) drawn ≡ Some (bit_and word mask)
masked-drawn drawn word mask bits is gives =
    ap (option_map (λ n. n % 2 ^ bits)) gives ∙ ap Some (sym (masked word mask bits is))

pub below-true : (n m : ℕ) → n < m → nat_lt n m ≡ true
below-true n m h = grind (arith, nat_tests)

pub below-false : (n m : ℕ) → m ≤ n → nat_lt n m ≡ false
below-false n m h = grind (arith, nat_tests)
