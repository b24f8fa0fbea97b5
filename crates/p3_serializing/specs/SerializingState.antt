-- A serializing challenger as contracts see it, with the observations and draws of its inner challenger.
use Rattle.std.specs.Prelude.{◌≡◌, ℕ, ◌+◌, ◌%◌, ◌^◌, List, IsSome, nat_lt}
use Rattle.p3_field_core.specs.Residues.{Residues}
use Rattle.p3_challenger_core.specs.{Sampling.{most_bits_of, Sampling, made_of}, Observation.{Observation, observed_as}}
use Rattle.p3_challenger_core.specs.Observation.{in_slice}
use Rattle.p3_serializing.specs.Bytes.{bytes_of, number_of}
use Rattle.p3_grinding.specs.Candidates.{accepted_of}
use Rattle.p3_challenger_core.specs.Observation as observation
use Rattle.p3_challenger_core.specs.Sampling as sampling

-- the state of the inner challenger, and the draw limit, which never changes
pub record SerializingState (I : Type 0) : Type 0 where
  pub inner : I
  pub draw_limit : ℕ

-- the state of a challenger
abbrev pub state_of : {C I : Type 0} → (C → I) → SerializingState C → SerializingState I
state_of inner_state c = record { inner = inner_state c.inner; draw_limit = c.draw_limit }

-- the state after a step of the inner challenger
abbrev pub stepped : {I : Type 0} → (I → I) → SerializingState I → SerializingState I
stepped step s = record s { inner = step s.inner }

-- feeding symbols feeds them to the inner challenger
abbrev pub fed : {I Symbol : Type 0} → (I → List Symbol → I) → SerializingState I → List Symbol → SerializingState I
fed inner_fed s symbols = stepped (λ i. inner_fed i symbols) s

-- ---- what is observed

-- an observation of the inner challenger
abbrev pub passed_on : {I Symbol T : Type 0} → Observation I Symbol T → Observation (SerializingState I) Symbol T
passed_on o = record {
  symbols = o.symbols;
  observed = λ s x. stepped (λ i. o.observed i x) s;
  may_leave = λ s x t. o.may_leave s.inner x t.inner × (t.draw_limit ≡ s.draw_limit);
}

-- the state after the inner challenger has observed bytes, one after another
abbrev pub after_bytes : {I : Type 0} → (I → ℕ → I) → SerializingState I → List ℕ → SerializingState I
after_bytes inner_observed s bytes = stepped (λ i. observation.observed_all inner_observed i bytes) s

-- observing a value makes the inner challenger observe its bytes, one after another
abbrev pub FeedsBytes : {I Symbol T : Type 0} → Observation I Symbol ℕ → Observation (SerializingState I) Symbol T →
    (T → List ℕ) → Type 0
FeedsBytes {I} {Symbol} {T} inner o bytes =
    (s : SerializingState I) (x : T) → o.observed s x ≡ after_bytes inner.observed s (bytes x)

module _ {I Symbol : Type 0} (o : Observation I Symbol ℕ) (slice_may_leave : I → List ℕ → I → Type 0) where
  -- an observation of bytes, which the inner challenger observes as one slice
  abbrev pub bytes_observed : Observation (SerializingState I) Symbol (List ℕ)
  bytes_observed = passed_on (in_slice o slice_may_leave)

  -- an observation of a number, as a fixed number of bytes
  abbrev pub number_observed : ℕ → Observation (SerializingState I) Symbol ℕ
  number_observed n = observed_as (bytes_of n) bytes_observed

  -- an observation of a field element, as the bytes of its canonical number
  abbrev pub element_observed : {F : Type 0} → Residues F → ℕ → Observation (SerializingState I) Symbol F
  element_observed r n = observed_as r.number (number_observed n)

  -- an observation of words of 64 bits, one after another, each as 8 bytes
  abbrev pub words_observed : Observation (SerializingState I) Symbol (List ℕ)
  words_observed = observation.in_row (number_observed 8)

-- ---- what is drawn

-- each draw gives a value
abbrev pub AlwaysGives : {S T : Type 0} → Sampling S T → Type 0
AlwaysGives {S} d = (s : S) → IsSome (d.sampled s)

-- no draw meets a limit
abbrev pub MeetsNoLimit : {S T : Type 0} → Sampling S T → Type 0
MeetsNoLimit {S} d = (s : S) → IsSome (d.sampled s) × ¬ (d.meets_limit s)

-- a draw from the inner challenger, under the draw limit
abbrev pub under_limit : {I T : Type 0} → (ℕ → Sampling I T) → Sampling (SerializingState I) T
under_limit d = record {
  sampled = λ s. (d s.draw_limit).sampled s.inner;
  after = λ s. stepped (d s.draw_limit).after s;
  meets_limit = λ s. (d s.draw_limit).meets_limit s.inner;
  may_leave = λ s t. (d s.draw_limit).may_leave s.inner t.inner × (t.draw_limit ≡ s.draw_limit);
}

-- a byte that is drawn and dropped
abbrev pub byte_dropped : {I : Type 0} → Sampling I ℕ → Sampling (SerializingState I) (Unit {0})
byte_dropped d = under_limit (λ _. made_of (λ _. tt) d)

-- the greatest number of groups drawn until one is an element
abbrev pub groups_allowed : {I : Type 0} → SerializingState I → ℕ
groups_allowed s = s.draw_limit

-- the least number of bits whose power of two is at least the order
abbrev pub bits_of_order : ℕ → ℕ
bits_of_order order = most_bits_of order + 1

module _ {I : Type 0} (d : Sampling I ℕ) (n : ℕ) where
  -- a group: the number that the next n bytes encode
  abbrev pub group : Sampling I ℕ
  group = made_of number_of (sampling.in_row d n)

  -- the low bits of a group
  abbrev pub low_bits_of_group : ℕ → Sampling I ℕ
  low_bits_of_group bits = made_of (λ word. word % 2 ^ bits) group

  -- an element: the first group below the order, each group cut to the bits of the order, within the draw
  -- limit
  abbrev pub element_of_groups : {F : Type 0} → Residues F → ℕ → Sampling I F
  element_of_groups r limit =
      made_of r.of (accepted_of (low_bits_of_group (bits_of_order r.order)) (λ x. nat_lt x r.order) limit)

  abbrev pub element_drawn : {F : Type 0} → Residues F → Sampling (SerializingState I) F
  element_drawn r = under_limit (element_of_groups r)

  -- a number of bits: the low bits of the next group
  abbrev pub bits_drawn : ℕ → Sampling (SerializingState I) ℕ
  bits_drawn bits = under_limit (λ _. low_bits_of_group bits)

  -- an element of a vector space: each coefficient in turn, coefficient 0 first
  abbrev pub space_element_drawn : {F A : Type 0} → Residues F → ℕ → (List F → A) → Sampling (SerializingState I) A
  space_element_drawn r dimension element = made_of element (sampling.in_row (element_drawn r) dimension)
