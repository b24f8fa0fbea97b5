-- The scalar of the first example: an element of the field of order 15 * 2 ^ 27 + 1, in four bytes.
use Rattle.std.specs.Prelude.{ℕ, List, Option, Result}
use Rattle.{p3_challenger_core.specs.{Observation.observed_all, Sampling.unrefused_draw}, p3_codecs.specs.BytesToField.drawn_bytes}
use Rattle.p3_small_primes.specs.BabyBearResidues.{BabyBear, residues}
use Rattle.p3_fs_core.specs.Scalar as scalar

-- the order of the field
abbrev pub order : ℕ
order = 2013265921

-- the canonical number of a scalar
abbrev pub number : BabyBear → ℕ
number x = residues.number x

-- the bit length of the order
abbrev pub bits : ℕ
bits = 31

-- the number of bytes of a scalar in the proof
abbrev pub width : ℕ
width = 4

-- the encoding of a scalar
abbrev pub wire : BabyBear → List ℕ
wire x = scalar.wire residues width x

-- the reading at the head of bytes
abbrev pub read : List ℕ → Result (BabyBear × List ℕ) (List ℕ)
read bytes = scalar.read residues width bytes

-- the state after a scalar is observed, given the observation of a byte
abbrev pub observed : {S : Type 0} → (S → ℕ → S) → S → BabyBear → S
observed byte_observed s x = observed_all byte_observed s (wire x)

-- the scalar that is drawn and the state after it, given the draw of a byte
abbrev pub sampled : {S : Type 0} → (S → Option ℕ) → (S → S) → S → Option BabyBear
sampled byte after_byte s = (drawn_bytes residues bits (unrefused_draw byte after_byte)).sampled s

abbrev pub after_sampled : {S : Type 0} → (S → Option ℕ) → (S → S) → S → S
after_sampled byte after_byte s = (drawn_bytes residues bits (unrefused_draw byte after_byte)).after s
