-- Elements of one field packed into an element of another, and an element of the other as digits.
use Rattle.std.specs.Prelude.{ℕ, ◌*◌, ◌^◌, ◌<◌, ◌≤◌, List, map}
use Rattle.p3_field_core.specs.Residues.{Residues}
use Rattle.p3_field_bridge.specs.Digits.{number_in, digit_at}

-- the element that packs elements of another field: each number takes a fixed number of bits, the first one lowest
abbrev pub packed : {F P : Type 0} → Residues F → Residues P → ℕ → List F → P
packed inner outer bits values = outer.of (number_in (2 ^ bits) (map inner.number values))

-- an element's digit at a place, in the base of the order of another field
abbrev pub digit_of : {F P : Type 0} → Residues F → Residues P → P → ℕ → F
digit_of inner outer value place = inner.of (digit_at inner.order (outer.number value) place)

-- the least number of bits that hold each number below an order
pub record AreRadixBits (order bits : ℕ) : Type 0 where
  pub enough : order ≤ 2 ^ bits
  pub least : (k : ℕ) → order ≤ 2 ^ k → bits ≤ k

-- the number of elements packed into an element of the other field, and the number of digits drawn from one. If
-- the other order is larger, both are at least 1, and so small that what is packed or drawn is below it
pub record AreCounts (order greater bits absorb squeeze : ℕ) : Type 0 where
  pub absorb_one : order < greater → 1 ≤ absorb
  pub squeeze_one : order < greater → 1 ≤ squeeze
  pub absorb_fits : order < greater → 2 ^ (bits * absorb) ≤ greater
  pub squeeze_fits : order < greater → order ^ squeeze ≤ greater
