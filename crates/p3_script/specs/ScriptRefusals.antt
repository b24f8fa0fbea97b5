-- The refusals of the steps of a script by the two sides, without the suite's types.
use Rattle.std.specs.Prelude.{ℕ, List, Option}
use Rattle.p3_driver_core.specs.{Proving.RefusesToWrite, Reads.Reading, Transcripts.Meaning, Verifying.RefusesToRead}
use Rattle.p3_fs_core.specs.{Steps.algebra_step, declared.step.Kind.Kind}
use Rattle.p3_runs.specs.{Rules.{Rules, Coding}, Values.{Value, bytes_in, scalar_in, scalars_in, extension_in}}
use Rattle.p3_runs.specs.Sides.{Sides, sides_alike, sides_known, sides_sent, sides_ground, sides_carried, RefusesKept}
use Rattle.p3_runs.specs.Sides.{RefusesWithin, RefusesCarriedWithin, RefusesAsRecorded, RefusesToWriteWithin}
use Rattle.p3_script.specs.Scripts.{play_of, work_in}
use Rattle.std.specs.Prelude as list
use Rattle.p3_fs_core.specs.declared.step.Kind.TheVariants as kind
use Rattle.p3_fs_core.specs.declared.step.Length.TheVariants as lengths
use Rattle.p3_driver_core.specs.Meanings as meaning
use Rattle.p3_driver_core.specs.Reads as reads
use Rattle.p3_script.specs.declared.steps.Step as script
use Rattle.p3_script.specs.declared.steps.Step.TheVariants as step

-- a value is sent
abbrev pub sides_of_value : {S Symbol F EF A : Type 0} → (Value F EF → Option A) → (A → Meaning S Symbol A) →
    Reading S Symbol A → Sides S F EF
sides_of_value found sent reading = sides_sent found (λ x. RefusesToWrite (sent x)) (RefusesToRead reading)

-- a list with a greatest length is sent
abbrev pub sides_within : {S Symbol F EF A : Type 0} → (Value F EF → Option (List A)) → ℕ →
    (List A → Meaning S Symbol (List A)) → Reading S Symbol (List A) → Sides S F EF
sides_within found max sent reading =
    sides_sent found (λ xs. RefusesToWriteWithin (list.length xs) max (sent xs)) (RefusesToRead reading)

module _ {S Symbol I F EF O Ac : Type 0} (rules : Rules S Symbol I F EF O Ac) where
  -- ---- lists as drivers play them, known to both sides or sent

  abbrev pub list_known : {A : Type 0} → Coding S Symbol F A → Kind → List ℕ → List A → Meaning S Symbol (List A)
  list_known coding kind label xs =
      meaning.observed_list (algebra_step kind label coding.algebra (lengths.Fixed (list.length xs))) coding.observation xs

  abbrev pub counted_known : {A : Type 0} → Coding S Symbol F A → Kind → List ℕ → List A → ℕ → Meaning S Symbol (List A)
  counted_known coding kind label xs max = meaning.observed_bounded
      (algebra_step kind label coding.algebra (lengths.Bounded max)) rules.alphabet max coding.observation xs

  abbrev pub list_sent : {A : Type 0} → Coding S Symbol F A → List ℕ → List A → Meaning S Symbol (List A)
  list_sent coding label xs =
      meaning.sent_list (algebra_step kind.Message label coding.algebra (lengths.Fixed (list.length xs)))
      coding.observation coding.encoding xs

  -- ---- values that are sent: bytes, hints, elements of an algebra

  abbrev pub bytes_sides : Kind → List ℕ → ℕ → Sides S F EF
  bytes_sides kind label len = sides_of_value bytes_in (meaning.sent_bytes kind label rules.alphabet)
      (reads.received_bytes kind label rules.alphabet len)

  abbrev pub counted_bytes_sides : List ℕ → ℕ → Sides S F EF
  counted_bytes_sides label max =
      sides_within bytes_in max (meaning.sent_bytes_bounded kind.Message label rules.alphabet max)
      (reads.received_bytes_bounded label rules.alphabet max)

  abbrev pub hint_sides : List ℕ → ℕ → Sides S F EF
  hint_sides label len =
      sides_of_value bytes_in (meaning.hinted {S = S} {Symbol = Symbol} label) (reads.hint_received {S = S} {Symbol = Symbol} label len)

  abbrev pub counted_hint_sides : List ℕ → ℕ → Sides S F EF
  counted_hint_sides label max = sides_within bytes_in max (meaning.hinted_bounded {S = S} {Symbol = Symbol} label max)
      (reads.hint_received_bounded {S = S} {Symbol = Symbol} label max)

  abbrev pub one_sides : {A : Type 0} → Coding S Symbol F A → (Value F EF → Option A) → List ℕ → Sides S F EF
  one_sides coding found label =
      let one = algebra_step kind.Message label coding.algebra lengths.Scalar in
      sides_of_value found (meaning.sent one coding.observation coding.encoding)
      (reads.received one coding.observation coding.encoding)

  abbrev pub list_sides : {A : Type 0} → Coding S Symbol F A → (Value F EF → Option (List A)) → List ℕ → ℕ →
      Sides S F EF
  list_sides coding found label n =
      sides_of_value found (list_sent coding label) (reads.received_list
      (algebra_step kind.Message label coding.algebra (lengths.Fixed n)) coding.observation coding.encoding n)

  abbrev pub counted_sides : {A : Type 0} → Coding S Symbol F A → (Value F EF → Option (List A)) → List ℕ → ℕ →
      Sides S F EF
  counted_sides coding found label max =
      let some = algebra_step kind.Message label coding.algebra (lengths.Bounded max) in
      sides_within found max (meaning.sent_bounded some rules.alphabet max coding.observation coding.encoding)
      (reads.received_bounded some rules.alphabet max coding.observation coding.encoding)

  -- ---- lists that both sides know, which may have a wrong length

  -- the verifier first compares the length of the list with that of the pattern's next step
  abbrev pub recorded_sides : {A : Type 0} → Coding S Symbol F A → Kind → List ℕ → List A → Sides S F EF
  recorded_sides coding kind label xs =
      let m = list_known coding kind label xs in sides_known (RefusesKept m) (RefusesAsRecorded (list.length xs) m)

  -- the list has a greatest length
  abbrev pub counted_known_sides : {A : Type 0} → Coding S Symbol F A → Kind → List ℕ → List A → ℕ → Sides S F EF
  counted_known_sides coding kind label xs max =
      let m = counted_known coding kind label xs max in
      sides_known (RefusesWithin (list.length xs) max m) (RefusesCarriedWithin (list.length xs) max m)

  -- ---- the steps of a script

  -- the refusals of a step: most steps that send nothing are refused alike on both sides
  abbrev pub sides_of : {Su U C K D G It St Sy : Type 0} → script.Step Su F EF U O C K Ac D G It St Sy → Sides S F EF
  sides_of (step.Salt label len) = bytes_sides kind.Salt label.now len
  sides_of (step.Bytes label len) = bytes_sides kind.Message label.now len
  sides_of (step.Hint label len) = hint_sides label.now len
  sides_of (step.BytesBounded label max) = counted_bytes_sides label.now max
  sides_of (step.HintBounded label max) = counted_hint_sides label.now max
  sides_of (step.Scalar label) = one_sides rules.scalar scalar_in label.now
  sides_of (step.Scalars label n) = list_sides rules.scalar scalars_in label.now n
  sides_of (step.ScalarsBounded label max) = counted_sides rules.scalar scalars_in label.now max
  sides_of (step.Extension label) = one_sides rules.extension extension_in label.now
  sides_of (step.PublicScalarsBounded label xs max) =
      counted_known_sides rules.scalar kind.Public label.now xs.items max
  sides_of (step.ObserveExtensions label xs) = recorded_sides rules.extension kind.Message label.now xs.items
  sides_of (step.ObserveExtensionsBounded label xs max) =
      counted_known_sides rules.extension kind.Message label.now xs.items max
  sides_of (step.Pow label bits) =
      sides_ground (work_in rules label.now bits) rules.witness_encoding rules.grinding.may_run_out
  sides_of (step.ObservePow label bits) = sides_carried (work_in rules label.now bits) rules.grinding.may_run_out
  sides_of step = sides_alike (play_of rules step)
