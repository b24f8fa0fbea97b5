-- Powers modulo a number, by squaring.
use Rattle.std.proofs.Common.{◌≡◌, ◌≢◌, ℕ, suc, ◌+◌, ◌*◌, ◌/◌, ◌%◌, ◌^◌, ◌∙◌, sym, ap, ap₂, arith}
use Rattle.std.proofs.Math.Nat.{pow-suc, pow-zero, mul_comm, mul_assoc, mul-one}
use Rattle.std.proofs.lemmas.Nat.{mul-mod_first, mul-mod_second, pow-mod, pow-add, mul-pow}
use Rattle.p3_field_core.specs.{Residues.{Residues, IsResidues}, ResidueLaws.of-is}

-- a square to half a power is the power
square-half : (s p h : ℕ) → p ≡ h + h → (s * s) ^ h ≡ s ^ p
square-half s p h e = mul-pow s s h ∙ sym (pow-add s h h) ∙ ap (λ k. s ^ k) (sym e)

-- what is left of the square to a power counts as the square does
power-reduced : (m a s h : ℕ) → (a * (s * s % m) ^ h) % m ≡ (a * (s * s) ^ h) % m
power-reduced m a s h =
    sym (mul-mod_second a ((s * s % m) ^ h) m)
    ∙ ap (λ q. (a * q) % m) (pow-mod (s * s) h m)
    ∙ mul-mod_second a ((s * s) ^ h) m

pub power-even : (m a s p : ℕ) → p % 2 ≢ 1 → (a * (s * s % m) ^ (p / 2)) % m ≡ (a * s ^ p) % m
power-even m a s p even =
    let halves : p ≡ p / 2 + p / 2 = omega arith in
    power-reduced m a s (p / 2) ∙ ap (λ q. (a * q) % m) (square-half s p (p / 2) halves)

pub power-odd : (m a s p : ℕ) → p % 2 ≡ 1 → (a * s % m * (s * s % m) ^ (p / 2)) % m ≡ (a * s ^ p) % m
power-odd m a s p odd =
    let halves : p ≡ suc (p / 2 + p / 2) = omega arith in
    let h = p / 2 + p / 2 in
    let whole : s * s ^ h ≡ s ^ p = mul_comm s (s ^ h) ∙ sym (pow-suc s h) ∙ ap (λ k. s ^ k) (sym halves) in
    mul-mod_first (a * s) ((s * s % m) ^ (p / 2)) m
    ∙ power-reduced m (a * s) s (p / 2)
    ∙ ap (λ q. (a * s * q) % m) (square-half s h (p / 2) (λ _. h))
    ∙ ap (λ q. q % m) (mul_assoc a s (s ^ h) ∙ ap (λ q. a * q) whole)

module _ {F : Type 0} (r : Residues F) (laws : IsResidues r) where
  -- a step of the loop: the product takes the square where the power is odd
  pub step-odd : (product square product' square' : F) (left whole : ℕ) → left % 2 ≡ 1
      → product' ≡ r.of (r.number product * r.number square) → square' ≡ r.of (r.number square * r.number square)
      → (r.number product * r.number square ^ left) % r.order ≡ whole
      → (r.number product' * r.number square' ^ (left / 2)) % r.order ≡ whole
  step-odd product square product' square' left whole odd p q so_far =
      let first = ap r.number p ∙ laws.number_of (r.number product * r.number square) in
      let second = ap r.number q ∙ laws.number_of (r.number square * r.number square) in
      ap₂ (λ a s. (a * s ^ (left / 2)) % r.order) first second
      ∙ power-odd r.order (r.number product) (r.number square) left odd ∙ so_far

  pub step-even : (product square product' square' : F) (left whole : ℕ) → left % 2 ≢ 1 → product' ≡ product
      → square' ≡ r.of (r.number square * r.number square)
      → (r.number product * r.number square ^ left) % r.order ≡ whole
      → (r.number product' * r.number square' ^ (left / 2)) % r.order ≡ whole
  step-even product square product' square' left whole even p q so_far =
      let second = ap r.number q ∙ laws.number_of (r.number square * r.number square) in
      ap₂ (λ a s. (a * s ^ (left / 2)) % r.order) (ap r.number p) second
      ∙ power-even r.order (r.number product) (r.number square) left even ∙ so_far

  -- at the end the product is the power
  pub of-power : (base product square : F) (exponent left : ℕ) → left ≡ 0
      → (r.number product * r.number square ^ left) % r.order ≡ (r.number base ^ exponent) % r.order
      → product ≡ r.of (r.number base ^ exponent)
  of-power base product square exponent left none e =
      let one : r.number product * r.number square ^ left ≡ r.number product =
      ap (λ k. r.number product * r.number square ^ k) none
      ∙ ap (λ k. r.number product * k) (pow-zero (r.number square)) ∙ mul-one (r.number product) in
      of-is r laws product (r.number base ^ exponent) (sym (ap (λ q. q % r.order) one) ∙ e)
