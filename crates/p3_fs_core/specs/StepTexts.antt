-- The printed texts of the types of steps.
use Rattle.std.specs.{Prelude.{ℕ, ◌/◌, ◌%◌, false, List, [], ◌∷◌, ◌++◌, codes}, List.flat_map}
use Rattle.std.specs.Fmt.{decimal, digits, digit_glyph}
use Rattle.p3_fs_core.specs.declared.step.{Hierarchy.Hierarchy, Hierarchy.TheVariants.{Atomic, Begin, End}, Kind.Kind}
use Rattle.p3_fs_core.specs.declared.step.Kind.TheVariants.{Protocol, Public, Message, Hint, Challenge, Pow, Salt}
use Rattle.p3_fs_core.specs.declared.step.{Length.Length, Length.TheVariants.{None, Scalar, Fixed, Bounded}}
use Rattle.p3_fs_core.specs.declared.step.{TypeTag.TypeTag, TypeTag.TheVariants.{Opaque, Bits, UniformBits}}
use Rattle.p3_fs_core.specs.declared.step.TypeTag.TheVariants.{Marker, Bytes, Algebra, BinaryTower, BinaryPolynomial}

abbrev pub hierarchy_text : Hierarchy → List ℕ
hierarchy_text Atomic = codes "Atomic"
hierarchy_text Begin = codes "Begin"
hierarchy_text End = codes "End"

abbrev pub kind_text : Kind → List ℕ
kind_text Protocol = codes "Protocol"
kind_text Public = codes "Public"
kind_text Message = codes "Message"
kind_text Hint = codes "Hint"
kind_text Challenge = codes "Challenge"
kind_text Pow = codes "Pow"
kind_text Salt = codes "Salt"

abbrev pub length_text : Length → List ℕ
length_text None = codes "None"
length_text Scalar = codes "Scalar"
length_text (Fixed count) = codes "Fixed(" ++ (decimal count ++ codes ")")
length_text (Bounded most) = codes "Bounded(" ++ (decimal most ++ codes ")")

-- a number in base 16, without leading zeros
abbrev pub hex_number : ℕ → List ℕ
hex_number n = digits 16 false n

-- a byte as two digits, high digit first
abbrev pub hex_byte_text : ℕ → List ℕ
hex_byte_text byte = digit_glyph false (byte / 16) ∷ digit_glyph false (byte % 16) ∷ []

-- each byte as two digits
abbrev pub hex_text : List ℕ → List ℕ
hex_text bytes = flat_map hex_byte_text bytes

-- the rest of an algebra's tag after the field: its degree and the digest of its basis
abbrev pub algebra_end : ℕ → List ℕ → List ℕ
algebra_end degree basis = codes "^" ++ (decimal degree ++ (codes ";" ++ (hex_text basis ++ codes ")")))

abbrev pub type_tag_text : TypeTag → List ℕ
type_tag_text Marker = codes "Marker"
type_tag_text Bytes = codes "Bytes"
type_tag_text (Algebra modulus degree basis) = codes "Algebra(" ++ (decimal modulus ++ algebra_end degree basis)
type_tag_text (BinaryTower bits degree basis) = codes "BinaryTower(" ++ (decimal bits ++ algebra_end degree basis)
type_tag_text (BinaryPolynomial bits modulus degree basis) =
    codes "BinaryPolynomial(" ++ (decimal bits ++ (codes ",0x" ++ (hex_number modulus ++ algebra_end degree basis)))
type_tag_text Opaque = codes "Opaque"
type_tag_text (Bits width) = codes "Bits(" ++ (decimal width ++ codes ")")
type_tag_text (UniformBits width) = codes "UniformBits(" ++ (decimal width ++ codes ")")
