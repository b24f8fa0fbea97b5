-- The meanings of a transcript's steps, each computed from the step and its values.
use Rattle.std.specs.Prelude.{ℕ, List, ◌++◌, length, flat_map}
use Rattle.p3_challenger_core.specs.{Observation.Observation, Sampling.Sampling}
use Rattle.p3_fs_core.specs.{Encoding.Encoding, Steps.Step, BigEndian.count_bytes, Alphabet.Alphabet}
use Rattle.p3_fs_core.specs.declared.step.{Kind.{Kind, TheVariants.Hint}, Length.TheVariants.{Fixed, Bounded}}
use Rattle.p3_driver_core.specs.Effects.{untouched, observing, observing_list, observing_bytes, drawing, drawing_list}
use Rattle.p3_driver_core.specs.{Effects.after_count, Transcripts.{Meaning, with_wire, without_wire, bytes_step}}

-- a container is opened or closed
abbrev pub marked : {S Symbol : Type 0} → Step → Meaning S Symbol (Unit {0})
marked interaction = without_wire interaction (untouched tt)

-- a value that the proof does not carry is observed
abbrev pub observed : {S Symbol A : Type 0} → Step → Observation S Symbol A → A → Meaning S Symbol A
observed interaction o x = without_wire interaction (observing o x)

-- a value is sent
abbrev pub sent : {S Symbol A : Type 0} → Step → Observation S Symbol A → Encoding A → A → Meaning S Symbol A
sent interaction o e x = with_wire interaction (observing o x) (e.wire x)

-- bytes are sent as they are
abbrev pub sent_bytes : {S Symbol I : Type 0} → Kind → List ℕ → Alphabet S Symbol I → List ℕ → Meaning S Symbol (List ℕ)
sent_bytes kind label alphabet bytes =
    with_wire (bytes_step kind label (Fixed (length bytes))) (observing_bytes alphabet bytes) bytes

-- bytes are sent that the challenger does not observe
abbrev pub hinted : {S Symbol : Type 0} → List ℕ → List ℕ → Meaning S Symbol (List ℕ)
hinted label bytes = with_wire (bytes_step Hint label (Fixed (length bytes))) (untouched bytes) bytes

-- a value is drawn
abbrev pub drawn : {S Symbol A : Type 0} → Step → Sampling S A → Meaning S Symbol A
drawn interaction d = without_wire interaction (drawing d)

-- ---- lists

-- the values of a list that the proof does not carry are observed
abbrev pub observed_list : {S Symbol A : Type 0} → Step → Observation S Symbol A → List A → Meaning S Symbol (List A)
observed_list interaction o xs = without_wire interaction (observing_list o xs)

-- the values of a list with a greatest length are observed after their count; the proof does not
-- carry them
abbrev pub observed_bounded : {S Symbol I A : Type 0} → Step → Alphabet S Symbol I → ℕ → Observation S Symbol A →
    List A → Meaning S Symbol (List A)
observed_bounded interaction alphabet max o xs =
    without_wire interaction (after_count alphabet max (length xs) (observing_list o xs))

-- the values of a list are sent
abbrev pub sent_list : {S Symbol A : Type 0} → Step → Observation S Symbol A → Encoding A → List A →
    Meaning S Symbol (List A)
sent_list interaction o e xs = with_wire interaction (observing_list o xs) (flat_map e.wire xs)

-- the values of a list with a greatest length are sent after their count
abbrev pub sent_bounded : {S Symbol I A : Type 0} → Step → Alphabet S Symbol I → ℕ → Observation S Symbol A →
    Encoding A → List A → Meaning S Symbol (List A)
sent_bounded interaction alphabet max o e xs = with_wire interaction
    (after_count alphabet max (length xs) (observing_list o xs)) (count_bytes max (length xs) ++ flat_map e.wire xs)

-- at most max bytes are sent after their count
abbrev pub sent_bytes_bounded : {S Symbol I : Type 0} → Kind → List ℕ → Alphabet S Symbol I → ℕ → List ℕ →
    Meaning S Symbol (List ℕ)
sent_bytes_bounded kind label alphabet max bytes = with_wire (bytes_step kind label (Bounded max))
    (after_count alphabet max (length bytes) (observing_bytes alphabet bytes)) (count_bytes max (length bytes) ++ bytes)

-- at most max bytes that the challenger does not observe are sent after their count
abbrev pub hinted_bounded : {S Symbol : Type 0} → List ℕ → ℕ → List ℕ → Meaning S Symbol (List ℕ)
hinted_bounded label max bytes =
    with_wire (bytes_step Hint label (Bounded max)) (untouched bytes) (count_bytes max (length bytes) ++ bytes)

-- n values are drawn
abbrev pub drawn_list : {S Symbol A : Type 0} → Step → Sampling S A → ℕ → Meaning S Symbol (List A)
drawn_list interaction d n = without_wire interaction (drawing_list d n)
