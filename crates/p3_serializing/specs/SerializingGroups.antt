-- A serializing challenger over lists of calls. Its inner challenger observes bytes and draws groups of bytes, which
-- determine the results.
use Rattle.std.specs.Prelude.{◌≡◌, ℕ, zero, suc, ◌%◌, ◌^◌, Bool, List, [], ◌∷◌, ◌++◌, take, drop, replicate, nat_lt}
use Rattle.std.specs.Prelude.{Option, Some, None, if◌then◌else◌}
use Rattle.p3_field_core.specs.Residues.{Residues}
use Rattle.p3_challenger_core.specs.{Observation.{Observation, observed_all}, Sampling.Sampling}
use Rattle.p3_serializing.specs.{Bytes.bytes_of, SerializingState.{SerializingState, bits_of_order, group}}
use Rattle.p3_grinding.specs.{Checks.{all_zero, check_of}, UniformDraws.UniformDraw}

-- A call observes an element, draws an element or a number of bits, plain or uniform, or draws and drops a byte
-- before a witness is observed. A flag says whether a rejected value may be replaced by another draw.
pub data SerializingCall (F : Type 0) : Type 0 where
  observe : F → SerializingCall F
  draw : SerializingCall F
  draw_bits : ℕ → SerializingCall F
  draw_uniform : Bool → ℕ → SerializingCall F
  drop_byte : SerializingCall F

-- the result of a draw, which is missing where it meets the draw limit
pub data Answer (F : Type 0) : Type 0 where
  element : Option F → Answer F
  bits : Option ℕ → Answer F

-- ---- call by call

-- the effect of each call on a state
pub record CallByCall (S Symbol F : Type 0) : Type 1 where
  pub observation : Observation S Symbol F
  pub drawn : Sampling S F
  pub bits_drawn : ℕ → Sampling S ℕ
  pub uniform : Bool → ℕ → UniformDraw S
  pub before_witness : Sampling S (Unit {0})

abbrev pub by_calls : {S Symbol F : Type 0} → Observation S Symbol F → Sampling S F → (ℕ → Sampling S ℕ)
    → (Bool → ℕ → UniformDraw S) → Sampling S (Unit {0}) → CallByCall S Symbol F
by_calls o drawn bits_drawn uniform before =
    record { observation = o; drawn = drawn; bits_drawn = bits_drawn; uniform = uniform; before_witness = before }

module _ {S Symbol F : Type 0} (by : CallByCall S Symbol F) where
  -- a check of a witness by a number of bits
  abbrev pub check_by : ℕ → F → Sampling S Bool
  check_by n witness = check_of by.before_witness by.observation (all_zero (by.bits_drawn n)) n witness

  -- the results of calls, one for each draw, in order
  abbrev pub answers_by_calls : List (SerializingCall F) → S → List (Answer F)
  answers_by_calls [] s = []
  answers_by_calls (observe x ∷ calls) s = answers_by_calls calls (by.observation.observed s x)
  answers_by_calls (draw ∷ calls) s = element (by.drawn.sampled s) ∷ answers_by_calls calls (by.drawn.after s)
  answers_by_calls (draw_bits n ∷ calls) s =
      bits ((by.bits_drawn n).sampled s) ∷ answers_by_calls calls ((by.bits_drawn n).after s)
  answers_by_calls (draw_uniform resample n ∷ calls) s =
      let d = (by.uniform resample n).draw in bits (d.sampled s) ∷ answers_by_calls calls (d.after s)
  answers_by_calls (drop_byte ∷ calls) s = answers_by_calls calls (by.before_witness.after s)

  -- the state after the calls
  abbrev pub after_calls : List (SerializingCall F) → S → S
  after_calls [] s = s
  after_calls (observe x ∷ calls) s = after_calls calls (by.observation.observed s x)
  after_calls (draw ∷ calls) s = after_calls calls (by.drawn.after s)
  after_calls (draw_bits n ∷ calls) s = after_calls calls ((by.bits_drawn n).after s)
  after_calls (draw_uniform resample n ∷ calls) s = after_calls calls ((by.uniform resample n).draw.after s)
  after_calls (drop_byte ∷ calls) s = after_calls calls (by.before_witness.after s)

-- ---- over the groups

-- a call on the inner challenger: bytes are observed as one slice, a group of bytes is drawn, or one byte is drawn
pub data ByteCall : Type 0 where
  feed : List ℕ → ByteCall
  read : ByteCall
  skip : ByteCall

-- From one state of the inner challenger to another, calls read these groups, as numbers, in order.
abbrev pub Reads : {I : Type 0} → (I → List ℕ → I) → Sampling I ℕ → (I → I) → I → List ByteCall → List ℕ → I → Type 0
Reads fed group past_byte i [] [] j = i ≡ j
Reads fed group past_byte i [] (word ∷ words) j = ⊥
Reads fed group past_byte i (feed bytes ∷ calls) words j = Reads fed group past_byte (fed i bytes) calls words j
Reads fed group past_byte i (read ∷ calls) [] j = ⊥
Reads fed group past_byte i (read ∷ calls) (word ∷ words) j =
    (group.sampled i ≡ Some word) × Reads fed group past_byte (group.after i) calls words j
Reads fed group past_byte i (skip ∷ calls) words j = Reads fed group past_byte (past_byte i) calls words j

-- the low bits of the first group
abbrev pub first_bits : ℕ → List ℕ → Option ℕ
first_bits k [] = None
first_bits k (word ∷ words) = Some (word % 2 ^ k)

module _ {F : Type 0} (r : Residues F) where
  -- a group cut to the bits of the order; the result may be an element
  abbrev pub cut : ℕ → ℕ
  cut word = word % 2 ^ bits_of_order r.order

  abbrev pub is_element : ℕ → Bool
  is_element word = nat_lt (cut word) r.order

  -- how many of these groups a draw of an element takes: up to the first element or, without one, up to the limit
  unfoldable pub taken : ℕ → List ℕ → ℕ
  taken zero words = zero
  taken (suc more) [] = suc more
  taken (suc more) (word ∷ words) = if is_element word then 1 else suc (taken more words)

  -- the first element among these groups
  unfoldable pub first_element : List ℕ → Option F
  first_element [] = None
  first_element (word ∷ words) = if is_element word then Some (r.of (cut word)) else first_element words

  -- the results of the draws among the calls, read from these groups
  abbrev pub answers_off : ℕ → List (SerializingCall F) → List ℕ → List (Answer F)
  answers_off limit [] words = []
  answers_off limit (observe x ∷ calls) words = answers_off limit calls words
  answers_off limit (draw ∷ calls) words =
      element (first_element (take limit words)) ∷ answers_off limit calls (drop (taken limit words) words)
  answers_off limit (draw_bits k ∷ calls) words = bits (first_bits k words) ∷ answers_off limit calls (drop 1 words)
  answers_off limit (draw_uniform resample k ∷ calls) words =
      bits (first_bits k words) ∷ answers_off limit calls (drop 1 words)
  answers_off limit (drop_byte ∷ calls) words = answers_off limit calls words

  -- the calls on the inner challenger that read these groups; an element's n bytes are one slice
  abbrev pub byte_calls : ℕ → ℕ → List (SerializingCall F) → List ℕ → List ByteCall
  byte_calls n limit [] words = []
  byte_calls n limit (observe x ∷ calls) words = feed (bytes_of n (r.number x)) ∷ byte_calls n limit calls words
  byte_calls n limit (draw ∷ calls) words =
      replicate (taken limit words) read ++ byte_calls n limit calls (drop (taken limit words) words)
  byte_calls n limit (draw_bits k ∷ calls) words = read ∷ byte_calls n limit calls (drop 1 words)
  byte_calls n limit (draw_uniform resample k ∷ calls) words = read ∷ byte_calls n limit calls (drop 1 words)
  byte_calls n limit (drop_byte ∷ calls) words = skip ∷ byte_calls n limit calls words

-- Calls are calls on the inner challenger that read these groups. The groups determine the results, the inner
-- challenger ends where its calls lead, and the draw limit stays.
pub record AreRead {I Symbol F : Type 0} (o : Observation I Symbol ℕ) (d : Sampling I ℕ) (r : Residues F) (n : ℕ)
    (by : CallByCall (SerializingState I) Symbol F) (calls : List (SerializingCall F)) (s : SerializingState I)
    (words : List ℕ) : Type 0 where
  pub reads : Reads (observed_all o.observed) (group d n) d.after s.inner (byte_calls r n s.draw_limit calls words)
      words (after_calls by calls s).inner
  pub answers : answers_by_calls by calls s ≡ answers_off r s.draw_limit calls words
  pub limit : (after_calls by calls s).draw_limit ≡ s.draw_limit
