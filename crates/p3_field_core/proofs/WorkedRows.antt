-- Worked rows, computed on the definitions.
use Rattle.std.proofs.Common.{◌≡◌, refl}
use Rattle.p3_field_core.specs.UniformBounds.{uniform_bound, how_many_have}

-- bounds for 4, 14 and 28 bits of the order 15 * 2 ^ 27 + 1, and for 8 and 9 of the order 257
bounds : (uniform_bound 2013265921 4 ≡ 2013265920)
    × (uniform_bound 2013265921 14 ≡ 2013265920)
    × (uniform_bound 2013265921 28 ≡ 1879048192)
    × (uniform_bound 257 8 ≡ 256)
    × (uniform_bound 257 9 ≡ 0)
bounds = (refl, refl, refl, refl, refl)

-- 3, 7 and 11 are below 12, and so are 0, 4 and 8
shared : (how_many_have 12 2 3 ≡ 3) × (how_many_have 12 2 0 ≡ 3)
shared = (refl, refl)
