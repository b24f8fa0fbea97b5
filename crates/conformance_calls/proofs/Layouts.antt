-- How a digest lies in memory: as the array of its values does.
use Rattle.std.proofs.{Common.{◌≡◌, ℕ, ◌+◌, ◌-◌, ◌*◌, ◌%◌, ◌<◌, ap, sym, subst, ◌∙◌}, Math.Nat.max-eq_left}
use Prim.Native.Nat.{max}
use native.Mathlib.Nat.{mod_self, add-zero, zero-add, sub-zero}
use mir.Syntax.{Ty}
use prog.{Memory.{size, align, up}, Align.{Dv, dv→, dv_zero, dv_one, dv_mul, align_pos, align_size}}

-- a multiple is its own next multiple
up-multiple : (k n : ℕ) → Dv k n → up k n ≡ n
up-multiple k n divides =
    ap (λ r. n + (k - r) % k) (dv→ k n divides)
    ∙ ap (λ x. n + x % k) (sub-zero k)
    ∙ ap (λ x. n + x) (mod_self k)
    ∙ add-zero n

-- a struct of an array and of a field of no bytes takes as many bytes as the array
digest_size : (τ : Ty) (n : ℕ) → up (max (align τ) 1) (up 1 (up (align τ) 0 + n * size τ) + 0) ≡ n * size τ
digest_size τ n =
    ap (λ k. up k (up 1 (up (align τ) 0 + n * size τ) + 0)) (max-eq_left (align_pos τ))
    ∙ ap (λ e. up (align τ) e) (add-zero (up 1 (up (align τ) 0 + n * size τ))
    ∙ up-multiple 1 (up (align τ) 0 + n * size τ) (dv_one (up (align τ) 0 + n * size τ)))
    ∙ ap (λ e. up (align τ) (e + n * size τ)) (up-multiple (align τ) 0 (dv_zero (align τ)))
    ∙ ap (λ e. up (align τ) e) (zero-add (n * size τ))
    ∙ up-multiple (align τ) (n * size τ) (dv_mul (align τ) (size τ) n (align_size τ))

-- a digest fits in memory where the array does
pub digest_fits : (τ : Ty) (n : ℕ) → n * size τ < 9223372036854775808 →
    up (max (align τ) 1) (up 1 (up (align τ) 0 + n * size τ) + 0) < 9223372036854775808
digest_fits τ n fits = subst (λ e. e < 9223372036854775808) (sym (digest_size τ n)) fits
