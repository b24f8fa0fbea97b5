-- Lemmas on the demo script.
use Rattle.std.proofs.Common.{◌≡◌, ◌≤◌, ℕ, zero, suc, ◌<◌, List, [], ◌∷◌, length, map, get_or, lit<, lit≤, subst, sym}
use Rattle.std.proofs.Common.{arith}
use Rattle.p3_challenger.specs.{BitLaws.greatest-is, Sampling.most_bits_of}
use Rattle.p3_field.specs.BabyBearResidues.{BabyBear}
use Rattle.transcript_program.specs.{DemoTypes.{DemoValue, DemoDrawn}, Report.report}
use Rattle.p3_challenger.specs.Values as value

-- a draw from the field of order 15 * 2 ^ 27 + 1 has at most 30 bits
most : most_bits_of 2013265921 ≡ 30
most = greatest-is 2013265921 63 30 (lit< tt) (lit≤ tt) (lit≤ tt)

pub eight-drawn : 8 ≤ most_bits_of 2013265921
eight-drawn = subst (λ n. 8 ≤ n) (sym most) (lit≤ tt)

pub four-drawn : 4 ≤ most_bits_of 2013265921
four-drawn = subst (λ n. 4 ≤ n) (sym most) (lit≤ tt)

-- an item of a list, as it is shown
pub item-shown : {A B : Type 0} (show : A → B) (xs : List A) (ys : List B) (other : A) (none : B) (i : ℕ) →
    map show xs ≡ ys → i < length ys → show (get_or xs i other) ≡ get_or ys i none
item-shown show [] [] other none i are within = absurd (omega (arith, within))
item-shown show [] (y ∷ ys) other none i are within = absurd (cc)
item-shown show (x ∷ xs) [] other none i are within = absurd (omega (arith, within))
item-shown show (x ∷ xs) (y ∷ ys) other none zero are within = cc
item-shown show (x ∷ xs) (y ∷ ys) other none (suc i) are within =
    let rest : map show xs ≡ ys = cc in item-shown show xs ys other none i rest (omega (arith, within))

-- the same values, note and draws are printed alike
pub told-same : (values values' alpha alpha' : List BabyBear) (note note' indices indices' : List ℕ) →
    ◌≡◌ {A = DemoValue} (value.Scalars values) (value.Scalars values') →
    ◌≡◌ {A = DemoValue} (value.Bytes note) (value.Bytes note') →
    ◌≡◌ {A = DemoDrawn} (value.OfScalars alpha) (value.OfScalars alpha') →
    ◌≡◌ {A = DemoDrawn} (value.OfBits indices) (value.OfBits indices') →
    report values alpha note indices ≡ report values' alpha' note' indices'
told-same values values' alpha alpha' note note' indices indices' v n a i =
    let one : values ≡ values' = cc in
    let two : note ≡ note' = cc in
    let three : alpha ≡ alpha' = cc in
    let four : indices ≡ indices' = cc in
    λ k. report (one k) (three k) (two k) (four k)
