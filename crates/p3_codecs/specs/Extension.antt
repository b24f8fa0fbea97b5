-- An element of a vector space, one coefficient after another in the order of the basis.
use Rattle.std.specs.Prelude.{ℕ, zero, suc, ◌*◌, List, [], ◌∷◌, length, codes, nat_lt, flat_map, Result, Ok, Err}
use Rattle.std.specs.Prelude.{if◌then◌else◌}
use Rattle.p3_challenger_core.specs.{Observation.{Observation, observed_as}, Sampling.{Sampling, made_of}}
use Rattle.p3_fs_core.specs.Encoding.{Encoding}
use Rattle.p3_challenger_core.specs.Observation as observation
use Rattle.p3_challenger_core.specs.Sampling as sampling

-- the reason where bytes are too few for an element
abbrev pub not_enough_bytes : List ℕ
not_enough_bytes = codes "not enough bytes for an extension-field encoding"

-- the result for a value that is read, or the reason why there is none
abbrev pub and_then : {A B E : Type 0} → (A → Result B E) → Result A E → Result B E
and_then f (Ok x) = f x
and_then f (Err reason) = Err reason

-- n coefficients in a row and the bytes after them, or the reason for the first invalid one
unfoldable pub read_all : {F : Type 0} → (List ℕ → Result (F × List ℕ) (List ℕ)) → ℕ → List ℕ →
    Result (List F × List ℕ) (List ℕ)
read_all read zero bytes = Ok ([], bytes)
read_all read (suc n) bytes = and_then (λ x. and_then (λ xs. Ok (x.0 ∷ xs.0, xs.1)) (read_all read n x.1)) (read bytes)

-- the element of n coefficients in a row
abbrev pub read_coefficients : {F A : Type 0} → (List ℕ → Result (F × List ℕ) (List ℕ)) → ℕ → (List F → A) → List ℕ →
    Result (A × List ℕ) (List ℕ)
read_coefficients base n element bytes = and_then (λ xs. Ok (element xs.0, xs.1)) (read_all base n bytes)

-- the reading at the head of bytes, for an element of n coefficients of this width
abbrev pub read : {F A : Type 0} → (List ℕ → Result (F × List ℕ) (List ℕ)) → ℕ → ℕ → (List F → A) → List ℕ →
    Result (A × List ℕ) (List ℕ)
read base width n element bytes =
    if nat_lt (length bytes) (n * width) then Err not_enough_bytes else read_coefficients base n element bytes

-- an element is encoded as its n coefficients, one after another
abbrev pub encoding : {F A : Type 0} → Encoding F → ℕ → (A → List F) → (List F → A) → Encoding A
encoding base n coefficients element = record {
  width = n * base.width;
  wire = λ x. flat_map base.wire (coefficients x);
  read = read base.read base.width n element;
}

-- an element is observed as its coefficients
abbrev pub observed_coefficients : {S Symbol F A : Type 0} → Observation S Symbol F → (A → List F) →
    Observation S Symbol A
observed_coefficients base coefficients = observed_as coefficients (observation.in_row base)

-- an element is drawn as n coefficients, coefficient 0 first
abbrev pub drawn_coefficients : {S F A : Type 0} → Sampling S F → ℕ → (List F → A) → Sampling S A
drawn_coefficients base n element = made_of element (sampling.in_row base n)
