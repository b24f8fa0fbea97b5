-- Bridges that lie about themselves: the laws of the trait refuse each.
use Rattle.std.proofs.Common.{lit<, lit≤, arith}
use Rattle.p3_field_bridge.specs.Bridges.{AreRadixBits, AreCounts}

-- ---- elements of the field of order 257 in one of that of order 2013265921

-- a bit less does not hold the number 256
bit_less-refused : AreRadixBits 257 8 → ⊥
bit_less-refused laws = absurd (omega (arith, laws.enough))

-- and a bit more is one too many
bit_more-refused : AreRadixBits 257 10 → ⊥
bit_more-refused laws = absurd (omega (arith, laws.least 9 (lit≤ tt)))

-- four elements do not fit
absorbs_four-refused : AreCounts 257 2013265921 9 4 2 → ⊥
absorbs_four-refused laws = absurd (omega (arith, laws.absorb_fits (lit< tt)))

-- four digits make numbers above the order
squeezes_four-refused : AreCounts 257 2013265921 9 3 4 → ⊥
squeezes_four-refused laws = absurd (omega (arith, laws.squeeze_fits (lit< tt)))

-- none is packed, or none is drawn
absorbs_none-refused : AreCounts 257 2013265921 9 0 2 → ⊥
absorbs_none-refused laws = absurd (omega (arith, laws.absorb_one (lit< tt)))

squeezes_none-refused : AreCounts 257 2013265921 9 3 0 → ⊥
squeezes_none-refused laws = absurd (omega (arith, laws.squeeze_one (lit< tt)))
