-- Facts of each kind of sending step, of the step that reads it, and of the value.
use Rattle.std.specs.Prelude.{◌^◌, ◌<◌, ◌≤◌, ℕ, List, length}
use Rattle.p3_field_core.specs.Residues.{Residues}
use Rattle.p3_challenger_core.specs.{Observation.Observation, Sampling.Sampling}
use Rattle.p3_fs_core.specs.{Alphabet.Alphabet, Encoding.Encoding, Scalar.encoding, Steps.Step, declared.step.Kind.Kind}
use Rattle.p3_fs_core.specs.declared.step.Kind.TheVariants.{Message}
use Rattle.p3_driver_core.specs.Meanings.{sent, sent_list, sent_bounded, sent_bytes, sent_bytes_bounded}
use Rattle.p3_driver_core.specs.{Meanings.{hinted, hinted_bounded}, Transcripts.Meaning, Working.{Work, work_of}}
use Rattle.p3_driver_core.specs.Reads.{Reading, received, received_list, received_bounded, received_bytes}
use Rattle.p3_driver_core.specs.Reads.{received_bytes_bounded, hint_received, hint_received_bounded}

-- a relation of the meaning of a sending step, the meaning of a reading step, and a value
abbrev pub Mirroring : Type 0 → Type 0 → Type 0 → Type 1
Mirroring S Symbol A = Meaning S Symbol A → Reading S Symbol A → A → Type 0

-- each value, each list, and each list after its count, whose greatest length is below 2^64, as for a `usize`
abbrev pub EachValue : {S Symbol A : Type 0} → Mirroring S Symbol A → Observation S Symbol A → Encoding A → Type 0
EachValue {A = A} Holds o e = (step : Step) (x : A) → Holds (sent step o e x) (received step o e) x

abbrev pub EachList : {S Symbol A : Type 0} → Mirroring S Symbol (List A) → Observation S Symbol A → Encoding A → Type 0
EachList {A = A} Holds o e =
    (step : Step) (xs : List A) → Holds (sent_list step o e xs) (received_list step o e (length xs)) xs

abbrev pub EachCountedList : {S Symbol I A : Type 0} → Mirroring S Symbol (List A) → Alphabet S Symbol I →
    Observation S Symbol A → Encoding A → Type 0
EachCountedList {A = A} Holds alphabet o e = (step : Step) (max : ℕ) (xs : List A) → length xs ≤ max → max < 2 ^ 64 →
    Holds (sent_bounded step alphabet max o e xs) (received_bounded step alphabet max o e) xs

-- each byte string, as it is and after its count
abbrev pub EachBytes : {S Symbol I : Type 0} → Mirroring S Symbol (List ℕ) → Alphabet S Symbol I → Type 0
EachBytes Holds alphabet = (kind : Kind) (label bytes : List ℕ) →
    Holds (sent_bytes kind label alphabet bytes) (received_bytes kind label alphabet (length bytes)) bytes

abbrev pub EachCountedBytes : {S Symbol I : Type 0} → Mirroring S Symbol (List ℕ) → Alphabet S Symbol I → Type 0
EachCountedBytes Holds alphabet = (label : List ℕ) (max : ℕ) (bytes : List ℕ) → length bytes ≤ max → max < 2 ^ 64 →
    Holds (sent_bytes_bounded Message label alphabet max bytes) (received_bytes_bounded label alphabet max) bytes

-- each hint, as it is and after its count
abbrev pub EachHint : {S Symbol : Type 0} → Mirroring S Symbol (List ℕ) → Type 0
EachHint Holds = (label bytes : List ℕ) → Holds (hinted label bytes) (hint_received label (length bytes)) bytes

abbrev pub EachCountedHint : {S Symbol : Type 0} → Mirroring S Symbol (List ℕ) → Type 0
EachCountedHint Holds = (label : List ℕ) (max : ℕ) (bytes : List ℕ) → length bytes ≤ max → max < 2 ^ 64 →
    Holds (hinted_bounded label max bytes) (hint_received_bounded label max) bytes

-- each proof of work with a number of bits, and the encoding of its witnesses
abbrev pub EachWork : {S Symbol W : Type 0} → (Work S Symbol W → Encoding W → Type 0) → Residues W → ℕ →
    Sampling S (Unit {0}) → Observation S Symbol W → (ℕ → Sampling S ℕ) → Type 0
EachWork Holds residues bit_length before o bit_draws =
    (step : Step) (bits : ℕ) → Holds (work_of step residues before o bit_draws bits) (encoding residues bit_length)
