-- A byte more of a hashed string.
use Rattle.std.proofs.Common.{◌≡◌, ℕ, suc, ◌+◌, ◌*◌, ◌/◌, ◌%◌, ◌^◌, ◌<◌, ◌≤◌, List, ◌∷◌, length, drop, get_or}
use Rattle.std.proofs.Common.{add-mul, add_assoc, mul_assoc, mul_comm, mod-eq_of_lt, mul-one, add-zero, zero-mul, zero-add}
use Rattle.std.proofs.{Common.{pow-suc, ap, sym, ◌∙◌, add-one}, Math.Nat.{div-add-mod, mul-add-mod_self_left}}
use Rattle.std.proofs.Math.{Seq.drop-cons, ListN.drop_of_length-le}
use Rattle.uses.specs.OwnHasher.{polynomial}

-- a factor may be reduced first
reduced : (v m p : ℕ) → (v % 256 * m + p) % 256 ≡ (v * m + p) % 256
reduced v m p =
    let split : v * m ≡ 256 * (v / 256 * m) + v % 256 * m =
    ap (λ w. w * m) (sym (div-add-mod v 256)) ∙ add-mul (256 * (v / 256)) (v % 256) m
    ∙ ap (λ w. w + v % 256 * m) (mul_assoc 256 (v / 256) m) in
    sym (ap (λ w. (w + p) % 256) split
    ∙ ap (λ w. w % 256) (add_assoc (256 * (v / 256 * m)) (v % 256 * m) p)
    ∙ mul-add-mod_self_left 256 (v / 256 * m) (v % 256 * m + p))

-- a byte more is a coefficient more
next-value : (value x n p : ℕ) → ((value * 31 % 256 + x) % 256 * 31 ^ n + p) % 256
    ≡ (value * 31 ^ suc n + (x * 31 ^ n + p)) % 256
next-value value x n p =
    reduced (value * 31 % 256 + x) (31 ^ n) p
    ∙ ap (λ w. (w + p) % 256) (add-mul (value * 31 % 256) x (31 ^ n))
    ∙ ap (λ w. w % 256) (add_assoc (value * 31 % 256 * 31 ^ n) (x * 31 ^ n) p)
    ∙ reduced (value * 31) (31 ^ n) (x * 31 ^ n + p)
    ∙ ap (λ w. (w + (x * 31 ^ n + p)) % 256)
    (mul_assoc value 31 (31 ^ n) ∙ ap (λ w. value * w) (mul_comm 31 (31 ^ n) ∙ sym (pow-suc 31 n)))

-- the value so far, and the bytes that are left, make the value of all
abbrev pub IsEvaluated : ℕ → List ℕ → List ℕ → Type 0
IsEvaluated value rest bytes = (value * 31 ^ length rest + polynomial rest) % 256 ≡ polynomial bytes % 256

pub evaluated-none : (bytes : List ℕ) → IsEvaluated 0 bytes bytes
evaluated-none bytes =
    ap (λ w. (w + polynomial bytes) % 256) (zero-mul (31 ^ length bytes))
    ∙ ap (λ w. w % 256) (zero-add (polynomial bytes))

pub evaluated-more : (bytes : List ℕ) (i value : ℕ) → i < length bytes → IsEvaluated value (drop i bytes) bytes →
    IsEvaluated ((value * 31 % 256 + get_or bytes i 0) % 256) (drop (i + 1) bytes) bytes
evaluated-more bytes i value inside so_far =
    let rest : drop i bytes ≡ get_or bytes i 0 ∷ drop (i + 1) bytes =
    drop-cons bytes i 0 inside ∙ ap (λ n. get_or bytes i 0 ∷ drop n bytes) (sym (add-one i)) in
    next-value value (get_or bytes i 0) (length (drop (i + 1) bytes)) (polynomial (drop (i + 1) bytes))
    ∙ sym (ap (λ left. (value * 31 ^ length left + polynomial left) % 256) rest) ∙ so_far

pub evaluated-all : (bytes : List ℕ) (i value : ℕ) → length bytes ≤ i → value < 256 →
    IsEvaluated value (drop i bytes) bytes → value ≡ polynomial bytes % 256
evaluated-all bytes i value over small so_far =
    sym (mod-eq_of_lt small) ∙ ap (λ w. w % 256) (sym (add-zero value) ∙ ap (λ w. w + 0) (sym (mul-one value)))
    ∙ sym (ap (λ left. (value * 31 ^ length left + polynomial left) % 256) (drop_of_length-le bytes over)) ∙ so_far
