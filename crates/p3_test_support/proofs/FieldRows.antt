-- Worked rows on elements of fields, computed on the definitions.
use Rattle.std.{proofs.Common.{◌≡◌, ◌%◌, [], ◌∷◌, Ok, Err, refl}, specs.List.flat_map}
use Rattle.p3_fs_core.specs.{BigEndian.big_endian, Packing.{packed, first_chunks}}
use Rattle.p3_field.specs.BabyBearResidues as baby_bear
use Rattle.p3_field.specs.F257Residues as f257
use Rattle.p3_fs_core.specs.Scalar as scalar
use Rattle.p3_codecs.specs.Extension as extension

-- 78 00 00 00 is the greatest element of the field of 31 bits, 78 00 00 01 none, and three bytes are too few
greatest : scalar.read baby_bear.residues 4 (0x78 ∷ 0 ∷ 0 ∷ 0 ∷ []) ≡ Ok (baby_bear.residues.of 2013265920, [])
greatest = refl

outside : scalar.read baby_bear.residues 4 (0x78 ∷ 0 ∷ 0 ∷ 1 ∷ []) ≡ Err scalar.outside_range
outside = refl

short : scalar.read baby_bear.residues 4 (0x78 ∷ 0 ∷ 0 ∷ []) ≡ Err scalar.not_enough_bytes
short = refl

test_bytes : scalar.wire baby_bear.residues 4 (baby_bear.residues.of 1952805748) ≡ 0x74 ∷ 0x65 ∷ 0x73 ∷ 0x74 ∷ []
test_bytes = refl

-- 01 00 is the greatest element of the field of 257 elements
greatest_of_257 : scalar.read f257.residues 2 (1 ∷ 0 ∷ []) ≡ Ok (f257.residues.of 256, [])
greatest_of_257 = refl

outside_257 : scalar.read f257.residues 2 (1 ∷ 1 ∷ []) ≡ Err scalar.outside_range
outside_257 = refl

short_257 : scalar.read f257.residues 2 (1 ∷ []) ≡ Err scalar.not_enough_bytes
short_257 = refl

-- the bytes 1 2 3 4 are their number and two chunks, and no byte is the number 0
packed_four : packed baby_bear.residues 3 (1 ∷ 2 ∷ 3 ∷ 4 ∷ []) ≡ baby_bear.residues.of 4 ∷ baby_bear.residues.of
    197121 ∷ baby_bear.residues.of 4 ∷ []
unfolding first_chunks
packed_four = refl

packed_none : packed baby_bear.residues 3 [] ≡ baby_bear.residues.of 0 ∷ []
unfolding first_chunks
packed_none = refl

-- the 20 bytes 0123456789abcdeffedcba98765432100f1e2d3c draw 497719269, and with 4b5a6978 after them
-- 18060362441347088952 in the field of 64 bits
drawn : big_endian (0x01 ∷ 0x23 ∷ 0x45 ∷ 0x67 ∷ 0x89 ∷ 0xab ∷ 0xcd ∷ 0xef ∷ 0xfe ∷ 0xdc ∷ 0xba ∷ 0x98 ∷ 0x76 ∷
    0x54 ∷ 0x32 ∷ 0x10 ∷ 0x0f ∷ 0x1e ∷ 0x2d ∷ 0x3c ∷ []) % 2013265921 ≡ 497719269
drawn = refl

drawn_of_64_bits : big_endian (0x01 ∷ 0x23 ∷ 0x45 ∷ 0x67 ∷ 0x89 ∷ 0xab ∷ 0xcd ∷ 0xef ∷ 0xfe ∷ 0xdc ∷ 0xba ∷ 0x98 ∷
    0x76 ∷ 0x54 ∷ 0x32 ∷ 0x10 ∷ 0x0f ∷ 0x1e ∷ 0x2d ∷ 0x3c ∷ 0x4b ∷ 0x5a ∷ 0x69 ∷ 0x78 ∷
    []) % 18446744069414584321 ≡ 18060362441347088952
drawn_of_64_bits = refl

-- ---- an element of four coefficients

-- 11, 13, 17, 19 are encoded 0000000b 0000000d 00000011 00000013; a byte fewer is too short
encoded_four : flat_map (scalar.wire baby_bear.residues 4) (baby_bear.residues.of 11 ∷ baby_bear.residues.of
    13 ∷ baby_bear.residues.of 17 ∷ baby_bear.residues.of 19 ∷ [])
    ≡ 0 ∷ 0 ∷ 0 ∷ 11 ∷ 0 ∷ 0 ∷ 0 ∷ 13 ∷ 0 ∷ 0 ∷ 0 ∷ 17 ∷ 0 ∷ 0 ∷ 0 ∷ 19 ∷ []
encoded_four = refl

read_four : extension.read (scalar.read baby_bear.residues 4) 4 4 (λ xs. xs)
    (0 ∷ 0 ∷ 0 ∷ 11 ∷ 0 ∷ 0 ∷ 0 ∷ 13 ∷ 0 ∷ 0 ∷ 0 ∷ 17 ∷ 0 ∷ 0 ∷ 0 ∷ 19 ∷ [])
    ≡ Ok (
      baby_bear.residues.of 11 ∷ baby_bear.residues.of 13 ∷ baby_bear.residues.of 17 ∷ baby_bear.residues.of
          19 ∷ [],
      [],
    )
unfolding extension.read_all
read_four = refl

short_four : extension.read (scalar.read baby_bear.residues 4) 4 4 (λ xs. xs)
    (0 ∷ 0 ∷ 0 ∷ 11 ∷ 0 ∷ 0 ∷ 0 ∷ 13 ∷ 0 ∷ 0 ∷ 0 ∷ 17 ∷ 0 ∷ 0 ∷ 0 ∷ []) ≡ Err extension.not_enough_bytes
short_four = refl
