-- How many bytes the order of a field needs, and a count.
use Rattle.std.{proofs.Common.{◌≡◌, ℕ, ◌<◌, ◌≤◌, ◌*◌, ◌^◌, subst, sym, arith}, specs.Int.div_ceil}
use Rattle.p3_fs_core.specs.{BigEndian.{bytes_for, count_width}, CountLaws.{count_width-enough, count_width-least}}
use Rattle.p3_fs_core.specs.ScalarLaws.{width-most}

pub counted-width : (bits width : ℕ) → width ≡ div_ceil bits 8 → width ≡ bytes_for bits
counted-width bits width is = omega (arith, is)

pub counted-width-most : (bits order width : ℕ) → 2 ^ bits ≤ 2 * order → order < 2 ^ 64 → width ≡ div_ceil bits 8 →
    width ≤ 8
counted-width-most bits order width least fits is =
    subst (λ (w : ℕ). w ≤ 8) (sym (counted-width bits width is)) (width-most bits order least fits)

-- the least width that is enough is the count's
pub count_width-is : (max r : ℕ) → max < 2 ^ 64 → max < 256 ^ r → ((v : ℕ) → max < 256 ^ v → r ≤ v) → r ≡ count_width max
count_width-is max r fits enough least =
    let at_most : r ≤ count_width max = least (count_width max) (count_width-enough max fits) in
    let at_least : count_width max ≤ r = count_width-least max r enough in
    omega (arith, at_most, at_least)
