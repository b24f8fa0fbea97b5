-- How many bits a draw of the demo protocol has at most.
use Rattle.std.proofs.Common.{◌≡◌, ◌≤◌, lit<, lit≤, subst, sym}
use Rattle.p3_challenger.specs.{BitLaws.greatest-is, Sampling.most_bits_of}

-- from the field of order 2 ^ 31 - 2 ^ 27 + 1
most : most_bits_of 2013265921 ≡ 30
most = greatest-is 2013265921 63 30 (lit< tt) (lit≤ tt) (lit≤ tt)

pub eight-drawn : 8 ≤ most_bits_of 2013265921
eight-drawn = subst (λ n. 8 ≤ n) (sym most) (lit≤ tt)

pub four-drawn : 4 ≤ most_bits_of 2013265921
four-drawn = subst (λ n. 4 ≤ n) (sym most) (lit≤ tt)
