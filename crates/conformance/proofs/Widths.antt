-- A number that fits in some bytes fits in more.
use Rattle.std.proofs.{Common.{ℕ, ◌^◌, ◌<◌, ◌≤◌, lit<}, Math.Nat.{lt_of_lt_of_le, pow-le-pow_right}}

pub fits_wider : (n r w : ℕ) → n < 256 ^ r → r ≤ w → n < 256 ^ w
fits_wider n r w below wide = lt_of_lt_of_le below (pow-le-pow_right (lit< tt) wide)
