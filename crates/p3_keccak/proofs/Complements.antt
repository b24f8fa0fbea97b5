-- Complements of words of 64 bits, and what a rotation, a sum bit by bit and χ make of them.
use Rattle.std.proofs.Common.{◌≡◌, ℕ, zero, suc, ◌+◌, ◌-◌, ◌*◌, ◌/◌, ◌%◌, ◌^◌, ◌<◌, min, max, [], ◌∷◌, bit_and, bit_or, bit_xor, refl, sym, ap, subst, ◌∙◌, arith, add-zero, mod-lt, pow_pos, pow-add}
use Rattle.std.proofs.lemmas.Nat.{and_le_r, mod-pow-add, mod_low, or_lt, or_shifted, shl-shr, shr_below, shr_high, shr_split, xor_lt}
use Rattle.std.proofs.lemmas.Nat.Bits.{bit_at-lt, bit_at_and, bit_at_not, bit_at_or, bit_at_xor, same_from_bits_below}
use lib.Bits.{or_self}
use Rattle.std.specs.Int.{w64, bit_not, rotate_left}
use Rattle.p3_keccak.specs.Rows.{chi_lane, chi_row}

not-lt : (x : ℕ) → bit_not w64 x < 2 ^ 64
not-lt x = omega arith

pub not_not : (x : ℕ) → x < 2 ^ 64 → bit_not w64 (bit_not w64 x) ≡ x
not_not x fits = omega arith

xor_not-bit : (p q : ℕ) → p < 2 → q < 2 → (p + (1 - q)) % 2 ≡ 1 - (p + q) % 2
xor_not-bit p q hp hq = omega arith

xor_not : (x y : ℕ) → x < 2 ^ 64 → y < 2 ^ 64 → bit_xor x (bit_not w64 y) ≡ bit_not w64 (bit_xor x y)
xor_not x y hx hy =
    same_from_bits_below 64 _ _ (xor_lt 64 x (bit_not w64 y) hx (not-lt y)) (not-lt (bit_xor x y)) (λ i low.
    rw (
      bit_at_xor x (bit_not w64 y) i,
      bit_at_not w64 y i hy low,
      bit_at_not w64 (bit_xor x y) i (xor_lt 64 x y hx hy) low,
      bit_at_xor x y i,
    )
    (xor_not-bit _ _ (bit_at-lt x i) (bit_at-lt y i)))

-- ---- rotations

-- the low j bits of n above its other bits, which are k
abbrev swapped : ℕ → ℕ → ℕ → ℕ
swapped j k n = n % 2 ^ j * 2 ^ k + n / 2 ^ j

rotated-swapped : (n j k : ℕ) → 64 ≡ j + k → n < 2 ^ 64 → bit_or (n * 2 ^ k % 2 ^ 64) (n / 2 ^ j) ≡ swapped j k n
rotated-swapped n j k whole fits =
    let other : 64 ≡ k + j = omega arith in
    let clear : n * 2 ^ k % 2 ^ k ≡ 0 = ap (λ x. x % 2 ^ k) (sym (add-zero _)) ∙ mod_low n k 0 (pow_pos k) in
    let low : n * 2 ^ k % 2 ^ 64 ≡ n % 2 ^ j * 2 ^ k =
    ap (λ i. n * 2 ^ k % 2 ^ i) whole ∙ mod-pow-add (n * 2 ^ k) j k ∙ rw (shl-shr n k, clear) (add-zero _) in
    let high : n / 2 ^ j < 2 ^ k = shr_below n k j (subst (λ (i : ℕ). n < 2 ^ i) other fits) in
    ap (λ x. bit_or x (n / 2 ^ j)) low ∙ or_shifted (n % 2 ^ j) k (n / 2 ^ j) high

-- a number below w in two parts, and what is left of each
complement-split : (w n hi lo r s p : ℕ) → n ≡ hi * p + lo → lo + 1 + s ≡ p → (hi + 1 + r) * p ≡ w → w - 1 - n ≡ r * p + s
complement-split w n hi lo r s p parts low high = omega arith

swapped-not : (n j k : ℕ) → 64 ≡ j + k → n < 2 ^ 64 → swapped j k (bit_not w64 n) ≡ bit_not w64 (swapped j k n)
swapped-not n j k whole fits =
    let p : ℕ = 2 ^ j in
    let q : ℕ = 2 ^ k in
    let hi : ℕ = n / p in
    let lo : ℕ = n % p in
    let r : ℕ = q - 1 - hi in
    let s : ℕ = p - 1 - lo in
    let other : 64 ≡ k + j = omega arith in
    let high : hi < q = shr_below n k j (subst (λ (i : ℕ). n < 2 ^ i) other fits) in
    let low : lo < p = mod-lt _ (pow_pos j) in
    let highs : hi + 1 + r ≡ q = omega (arith, high) in
    let lows : lo + 1 + s ≡ p = omega (arith, low) in
    let word : 2 ^ 64 ≡ p * q = ap (λ i. 2 ^ i) whole ∙ pow-add 2 j k in
    let word_other : 2 ^ 64 ≡ q * p = ap (λ i. 2 ^ i) other ∙ pow-add 2 k j in
    let by_high : (hi + 1 + r) * p ≡ 2 ^ 64 = ap (λ x. x * p) highs ∙ sym word_other in
    let by_low : (lo + 1 + s) * q ≡ 2 ^ 64 = ap (λ x. x * q) lows ∙ sym word in
    let below : s < p = omega (arith, lows) in
    let before : bit_not w64 n ≡ r * p + s = complement-split (2 ^ 64) n hi lo r s p (sym (shr_split n j)) lows by_high in
    let after : bit_not w64 (lo * q + hi) ≡ s * q + r = complement-split (2 ^ 64) (lo * q + hi) lo hi s r q refl highs by_low in
    ap (swapped j k) before ∙ (λ i. mod_low r j s below i * q + shr_high r j s below i) ∙ sym after

-- a rotation by k bits, in the words of `rotate_left`
abbrev turned : ℕ → ℕ → ℕ
turned n k = bit_or (n * 2 ^ k % 2 ^ 64) (n / 2 ^ ((64 - k) % 64))

turned-none : (n : ℕ) → n < 2 ^ 64 → turned n 0 ≡ n
turned-none n fits =
    let left : n * 2 ^ 0 % 2 ^ 64 ≡ n = omega arith in
    let right : n / 2 ^ 0 ≡ n = omega arith in
    (λ i. bit_or (left i) (right i)) ∙ or_self n

turned-swapped : (n k : ℕ) → suc k < 64 → n < 2 ^ 64 → turned n (suc k) ≡ swapped (64 - suc k) (suc k) n
turned-swapped n k less fits =
    let at : (64 - suc k) % 64 ≡ 64 - suc k = omega arith in
    ap (λ (e : ℕ). bit_or (n * 2 ^ suc k % 2 ^ 64) (n / 2 ^ e)) at ∙ rotated-swapped n (64 - suc k) (suc k) (omega arith) fits

turned-not : (n k : ℕ) → k < 64 → n < 2 ^ 64 → turned (bit_not w64 n) k ≡ bit_not w64 (turned n k)
turned-not n zero less fits = turned-none (bit_not w64 n) (not-lt n) ∙ sym (ap (bit_not w64) (turned-none n fits))
turned-not n (suc k) less fits =
    turned-swapped (bit_not w64 n) k less (not-lt n)
    ∙ swapped-not n (64 - suc k) (suc k) (omega arith) fits
    ∙ sym (ap (bit_not w64) (turned-swapped n k less fits))

rotate-not : (n by : ℕ) → n < 2 ^ 64 → rotate_left w64 (bit_not w64 n) by ≡ bit_not w64 (rotate_left w64 n by)
rotate-not n by fits = turned-not n (by % 64) (mod-lt _ (omega arith)) fits

-- a lane to which a word is added and which then is rotated, and the lane to which the word's complement is added
pub moved-not : (lane word by : ℕ) → lane < 2 ^ 64 → word < 2 ^ 64
    → bit_not w64 (rotate_left w64 (bit_xor lane word) by) ≡ rotate_left w64 (bit_xor lane (bit_not w64 word)) by
moved-not lane word by hl hw =
    sym (ap (λ x. rotate_left w64 x by) (xor_not lane word hl hw) ∙ rotate-not (bit_xor lane word) by (xor_lt 64 lane word hl hw))

-- ---- χ

chi-bit : (n y m : ℕ) → n < 2 → y < 2 → m < 2 → (1 - n + min (1 - y) (1 - m)) % 2 ≡ (n + max y m) % 2
chi-bit n y m hn hy hm = omega arith

-- a lane after χ, where that lane and the second after it are known by their complements
chi_lane-nots : (n y m : ℕ) → n < 2 ^ 64 → y < 2 ^ 64 → m < 2 ^ 64
    → chi_lane (bit_not w64 n) y (bit_not w64 m) ≡ bit_xor n (bit_or y m)
chi_lane-nots n y m hn hy hm =
    let both : bit_and (bit_not w64 y) (bit_not w64 m) < 2 ^ 64 =
    omega (arith, and_le_r (bit_not w64 y) (bit_not w64 m), not-lt m) in
    let long = xor_lt 64 (bit_not w64 n) (bit_and (bit_not w64 y) (bit_not w64 m)) (not-lt n) both in
    let short = xor_lt 64 n (bit_or y m) hn (or_lt 64 y m hy hm) in
    same_from_bits_below 64 _ _ long short (λ i low.
    rw (
      bit_at_xor (bit_not w64 n) (bit_and (bit_not w64 y) (bit_not w64 m)) i,
      bit_at_and (bit_not w64 y) (bit_not w64 m) i,
      bit_at_not w64 n i hn low,
      bit_at_not w64 y i hy low,
      bit_at_not w64 m i hm low,
      bit_at_xor n (bit_or y m) i,
      bit_at_or y m i,
    )
    (chi-bit _ _ _ (bit_at-lt n i) (bit_at-lt y i) (bit_at-lt m i)))

-- χ of a row of which the second and the fourth lane are known by their complements
pub chi_row-nots : (b0 n1 b2 n3 b4 : ℕ) → b0 < 2 ^ 64 → n1 < 2 ^ 64 → b2 < 2 ^ 64 → n3 < 2 ^ 64 → b4 < 2 ^ 64
    → chi_row b0 (bit_not w64 n1) b2 (bit_not w64 n3) b4
    ≡ bit_xor b0 (bit_and n1 b2) ∷ bit_xor n1 (bit_or b2 n3) ∷ bit_xor b2 (bit_and n3 b4)
    ∷ bit_xor n3 (bit_or b4 (bit_not w64 b0)) ∷ bit_xor (bit_not w64 b4) (bit_or b0 n1) ∷ []
chi_row-nots b0 n1 b2 n3 b4 h0 h1 h2 h3 h4 =
    let fourth : chi_lane (bit_not w64 n3) b4 b0 ≡ bit_xor n3 (bit_or b4 (bit_not w64 b0)) =
    sym (ap (chi_lane (bit_not w64 n3) b4) (not_not b0 h0)) ∙ chi_lane-nots n3 b4 (bit_not w64 b0) h3 h4 (not-lt b0) in
    let fifth : chi_lane b4 b0 (bit_not w64 n1) ≡ bit_xor (bit_not w64 b4) (bit_or b0 n1) =
    sym (ap (λ x. chi_lane x b0 (bit_not w64 n1)) (not_not b4 h4)) ∙ chi_lane-nots (bit_not w64 b4) b0 n1 (not-lt b4) h0 h1 in
    λ i. bit_xor b0 (bit_and (not_not n1 h1 i) b2) ∷ chi_lane-nots n1 b2 n3 h1 h2 h3 i
    ∷ bit_xor b2 (bit_and (not_not n3 h3 i) b4) ∷ fourth i ∷ fifth i ∷ []
