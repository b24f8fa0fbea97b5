-- The meaning of a script's steps, and what is sent, received and drawn at them, without the suite's types.
use Rattle.std.specs.Prelude.{ℕ, ◌≤◌, List, [], ◌∷◌, ◌++◌, map, flat_map, Option, Some, None}
use Rattle.p3_challenger_core.specs.Sampling.{Sampling}
use Rattle.p3_fs_core.specs.{Steps.{algebra_step, Step, marker_of}, declared.step.Hierarchy.Hierarchy}
use Rattle.p3_fs_core.specs.declared.step.{Hierarchy.TheVariants.{Begin, End}, Kind.Kind}
use Rattle.p3_driver_core.specs.Effects.{Effect, untouched, observing, observing_list, observing_bytes, after_count}
use Rattle.p3_driver_core.specs.Effects.{drawing, drawing_list}
use Rattle.p3_driver_core.specs.Transcripts.{bytes_step, opaque_step, bits_step, uniform_bits_step}
use Rattle.p3_fs_core.specs.BigEndian.{count_bytes}
use Rattle.p3_driver_core.specs.{Rejecting.drawing_rejecting, Working.{Work, work_of}}
use Rattle.p3_runs.specs.{Absorbed.{Absorbed, Nothing, Bytes, Elements, Own, witness_of}, Rules.{Rules, Coding}}
use Rattle.p3_runs.specs.Plays.{Play, known, known_within, sends, sends_witness, carries_witness, only_if}
use Rattle.p3_runs.specs.Plays.{no_challenge, Any, HasLength, HasAtMost}
use Rattle.p3_runs.specs.Values.{Value, Challenge, IsNothing, bytes_in, scalar_in, scalars_in, extension_in}
use Rattle.p3_script.specs.declared.steps.{Drawn.Drawn, Received.Received, Sent.Sent}
use Rattle.std.specs.Prelude as list
use Rattle.p3_fs_core.specs.declared.step.Kind.TheVariants as kind
use Rattle.p3_fs_core.specs.declared.step.Length.TheVariants as lengths
use Rattle.p3_runs.specs.Values as value
use Rattle.p3_script.specs.declared.steps.Drawn.TheVariants as drawn
use Rattle.p3_script.specs.declared.steps.Received.TheVariants as received
use Rattle.p3_script.specs.declared.steps.Sent.TheVariants as sent
use Rattle.p3_script.specs.declared.steps.Step as script
use Rattle.p3_script.specs.declared.steps.Step.TheVariants as step

module _ {S Symbol I F EF O Ac : Type 0} (rules : Rules S Symbol I F EF O Ac) where
  -- a container is opened or closed
  abbrev pub marks : Hierarchy → List ℕ → Kind → Play S Symbol F EF O
  marks hierarchy label kind =
      known (marker_of hierarchy kind label rules.marker_name) no_challenge (untouched (tt {0})) Nothing

  -- a value is observed in the challenger's own way
  abbrev pub knows_opaque : List ℕ → O → Play S Symbol F EF O
  knows_opaque label x =
      known (opaque_step kind.Message label lengths.Scalar) no_challenge (observing rules.opaque x) (Own x)

  -- ---- bytes

  -- bytes or the bytes of elements after their count, in as few bytes as hold the greatest count
  abbrev pub after_their_count : {T : Type 0} → ℕ → (List T → List ℕ) → List T → List ℕ
  after_their_count max wire xs = count_bytes max (list.length xs) ++ wire xs

  -- an effect on a list that follows the effect of its count
  abbrev pub counting : {T : Type 0} → ℕ → (List T → Effect S Symbol (List T)) → List T → Effect S Symbol (List T)
  counting max effect xs = after_count rules.alphabet max (list.length xs) (effect xs)

  -- len bytes are sent, or at most max bytes after their count
  abbrev pub sends_bytes : Kind → List ℕ → ℕ → Play S Symbol F EF O
  sends_bytes kind label len = sends (bytes_step kind label (lengths.Fixed len)) bytes_in (HasLength len)
      (HasLength len) (λ bytes. bytes) (observing_bytes rules.alphabet) Bytes

  abbrev pub sends_counted_bytes : List ℕ → ℕ → Play S Symbol F EF O
  sends_counted_bytes label max = sends (bytes_step kind.Message label (lengths.Bounded max)) bytes_in Any
      (HasAtMost max) (after_their_count max (λ bytes. bytes)) (counting max (observing_bytes rules.alphabet)) Bytes

  -- the same, and the challenger does not observe them
  abbrev pub hints : List ℕ → ℕ → Play S Symbol F EF O
  hints label len = sends (bytes_step kind.Hint label (lengths.Fixed len)) bytes_in (HasLength len) (HasLength len)
      (λ bytes. bytes) untouched (λ _. Nothing)

  abbrev pub hints_counted : List ℕ → ℕ → Play S Symbol F EF O
  hints_counted label max = sends (bytes_step kind.Hint label (lengths.Bounded max)) bytes_in Any (HasAtMost max)
      (after_their_count max (λ bytes. bytes)) untouched (λ _. Nothing)

  -- ---- elements of an algebra, each absorbed as its coefficients

  abbrev pub element_absorbed : {A : Type 0} → Coding S Symbol F A → A → Absorbed F O
  element_absorbed coding x = Elements (coding.coefficients x ∷ [])

  abbrev pub elements_absorbed : {A : Type 0} → Coding S Symbol F A → List A → Absorbed F O
  elements_absorbed coding xs = Elements (map coding.coefficients xs)

  -- both sides know one element, a list of them, or a list of at most max elements, which follow their count
  abbrev pub knows_one : {A : Type 0} → Coding S Symbol F A → Kind → List ℕ → A → Play S Symbol F EF O
  knows_one coding kind label x = known (algebra_step kind label coding.algebra lengths.Scalar) no_challenge
      (observing coding.observation x) (element_absorbed coding x)

  abbrev pub knows_list : {A : Type 0} → Coding S Symbol F A → Kind → List ℕ → List A → Play S Symbol F EF O
  knows_list coding kind label xs = known (algebra_step kind label coding.algebra (lengths.Fixed (list.length xs)))
      no_challenge (observing_list coding.observation xs) (elements_absorbed coding xs)

  abbrev pub knows_counted : {A : Type 0} → Coding S Symbol F A → Kind → List ℕ → List A → ℕ → Play S Symbol F EF O
  knows_counted coding kind label xs max =
      known_within (algebra_step kind label coding.algebra (lengths.Bounded max)) (list.length xs) max
      (counting max (observing_list coding.observation) xs) (elements_absorbed coding xs)

  -- one element is sent, or exactly n elements, or at most max elements after their count
  abbrev pub sends_one : {A : Type 0} → Coding S Symbol F A → (Value F EF → Option A) → List ℕ → Play S Symbol F EF O
  sends_one coding found label = sends (algebra_step kind.Message label coding.algebra lengths.Scalar) found Any Any
      coding.encoding.wire (observing coding.observation) (element_absorbed coding)

  abbrev pub sends_list : {A : Type 0} → Coding S Symbol F A → (Value F EF → Option (List A)) → List ℕ → ℕ →
      Play S Symbol F EF O
  sends_list coding found label n = sends (algebra_step kind.Message label coding.algebra (lengths.Fixed n)) found
      (HasLength n) (HasLength n) (flat_map coding.encoding.wire) (observing_list coding.observation)
      (elements_absorbed coding)

  abbrev pub sends_counted : {A : Type 0} → Coding S Symbol F A → (Value F EF → Option (List A)) → List ℕ → ℕ →
      Play S Symbol F EF O
  sends_counted coding found label max =
      sends (algebra_step kind.Message label coding.algebra (lengths.Bounded max)) found Any (HasAtMost max)
      (after_their_count max (flat_map coding.encoding.wire)) (counting max (observing_list coding.observation))
      (elements_absorbed coding)

  -- ---- challenges

  -- one element is drawn through the codec, which has to be secure
  abbrev pub draws_one : {A : Type 0} → Coding S Symbol F A → (List A → Challenge F EF) → List ℕ → Play S Symbol F EF O
  draws_one coding make label = only_if rules.is_secure
      (known (algebra_step kind.Challenge label coding.algebra lengths.Scalar) (λ x. Some (make (x ∷ [])))
      (drawing coding.sampling) Nothing)

  abbrev pub draws_list : {A : Type 0} → Coding S Symbol F A → (List A → Challenge F EF) → List ℕ → ℕ →
      Play S Symbol F EF O
  draws_list coding make label n = only_if rules.is_secure
      (known (algebra_step kind.Challenge label coding.algebra (lengths.Fixed n)) (λ xs. Some (make xs))
      (drawing_list coding.sampling n) Nothing)

  -- elements are drawn until a rule has accepted enough of them
  abbrev pub draws_extensions_rejecting : List ℕ → ℕ → Ac → ℕ → Play S Symbol F EF O
  draws_extensions_rejecting label n accept limit = only_if (rules.is_secure × (1 ≤ limit))
      (known (algebra_step kind.Challenge label rules.extension.algebra (lengths.Fixed n))
      (λ xs. Some (value.OfExtensions xs))
      (drawing_rejecting rules.extension.sampling (rules.accepts_extension accept) limit n) Nothing)

  -- numbers of a given bit width are drawn
  abbrev pub draws_bits : Step → Type 0 → (ℕ → Sampling S ℕ) → ℕ → ℕ → Play S Symbol F EF O
  draws_bits interaction has d width n = only_if (has × (width ≤ rules.bits.most))
      (known interaction (λ xs. Some (value.OfBits xs)) (drawing_list (d width) n) Nothing)

  abbrev pub draws_bits_rejecting : List ℕ → ℕ → ℕ → Ac → ℕ → Play S Symbol F EF O
  draws_bits_rejecting label width n accept limit =
      only_if (rules.bits.are_uniform × (width ≤ rules.bits.most) × (1 ≤ limit))
      (known (uniform_bits_step label width (lengths.Fixed n)) (λ xs. Some (value.OfBits xs))
      (drawing_rejecting (rules.bits.uniform width) (rules.accepts_bits accept) limit n) Nothing)

  -- ---- proof of work

  abbrev pub work_in : List ℕ → ℕ → Work S Symbol F
  work_in label bits = work_of (algebra_step kind.Pow label rules.scalar.algebra (lengths.Fixed bits)) rules.residues
      rules.grinding.before_witness rules.grinding.witness rules.bits.plain bits

  abbrev pub is_work : ℕ → Type 0
  is_work bits = rules.grinding.is_there × (bits ≤ rules.bits.most)

  -- a proof of work, whose witness is in the proof or carried by the caller
  abbrev pub sends_work : List ℕ → ℕ → Play S Symbol F EF O
  sends_work label bits = only_if (is_work bits)
      (sends_witness (work_in label bits) rules.grinding.is_there rules.witness_encoding (witness_of bits))

  abbrev pub carries_work : List ℕ → ℕ → Play S Symbol F EF O
  carries_work label bits = only_if (is_work bits)
      (carries_witness (work_in label bits) rules.grinding.is_there (witness_of bits))

  -- ---- the steps of a script

  abbrev pub play_of : {Su U C K D G It St Sy : Type 0} → script.Step Su F EF U O C K Ac D G It St Sy → Play S Symbol F EF O
  play_of (step.Begin label kind) = marks Begin label.now kind
  play_of (step.End label kind) = marks End label.now kind
  play_of (step.Salt label len) = sends_bytes kind.Salt label.now len
  play_of (step.Bytes label len) = sends_bytes kind.Message label.now len
  play_of (step.Hint label len) = hints label.now len
  play_of (step.BytesBounded label max) = sends_counted_bytes label.now max
  play_of (step.HintBounded label max) = hints_counted label.now max
  play_of (step.PublicScalar label x) = knows_one rules.scalar kind.Public label.now x
  play_of (step.PublicScalars label xs) = knows_list rules.scalar kind.Public label.now xs.items
  play_of (step.PublicScalarsBounded label xs max) = knows_counted rules.scalar kind.Public label.now xs.items max
  play_of (step.Scalar label) = sends_one rules.scalar scalar_in label.now
  play_of (step.Scalars label n) = sends_list rules.scalar scalars_in label.now n
  play_of (step.ScalarsBounded label max) = sends_counted rules.scalar scalars_in label.now max
  play_of (step.Extension label) = sends_one rules.extension extension_in label.now
  play_of (step.ObserveExtension label x) = knows_one rules.extension kind.Message label.now x
  play_of (step.ObserveExtensions label xs) = knows_list rules.extension kind.Message label.now xs.items
  play_of (step.ObserveExtensionsBounded label xs max) =
      knows_counted rules.extension kind.Message label.now xs.items max
  play_of (step.Opaque label x) = knows_opaque label.now x
  play_of (step.ChallengeScalar label) = draws_one rules.scalar value.OfScalars label.now
  play_of (step.ChallengeScalars label n) = draws_list rules.scalar value.OfScalars label.now n
  play_of (step.ChallengeExtension label) = draws_one rules.extension value.OfExtensions label.now
  play_of (step.ChallengeExtensions label n) = draws_list rules.extension value.OfExtensions label.now n
  play_of (step.ChallengeExtensionsRejecting label n accept limit) = draws_extensions_rejecting label.now n accept limit
  play_of (step.ChallengeBits label width n) =
      draws_bits (bits_step label.now width (lengths.Fixed n)) rules.bits.are_there rules.bits.plain width n
  play_of (step.ChallengeUniformBits label width n) =
      draws_bits (uniform_bits_step label.now width (lengths.Fixed n)) rules.bits.are_uniform rules.bits.uniform width n
  play_of (step.ChallengeUniformBitsRejecting label width n accept limit) =
      draws_bits_rejecting label.now width n accept limit
  play_of (step.Pow label bits) = sends_work label.now bits
  play_of (step.ObservePow label bits) = carries_work label.now bits

-- ---- values, as contracts see them

module _ {Su F EF U O C K Ac D G It St Sy : Type 0} where
  abbrev pub value_received : Received Su F EF U O C K Ac D G It St Sy → Value F EF
  value_received (received.Bytes bytes) = value.Bytes bytes.now
  value_received (received.Scalar x) = value.Scalar x
  value_received (received.Scalars xs) = value.Scalars xs.items
  value_received (received.Extension x) = value.Extension x
  value_received (received.Witness x) = value.Witness x

  abbrev pub value_sent : Sent Su F EF U O C K Ac D G It St Sy → Value F EF
  value_sent (sent.Bytes bytes) = value.Bytes bytes.items
  value_sent (sent.Scalar x) = value.Scalar x
  value_sent (sent.Scalars xs) = value.Scalars xs.items
  value_sent (sent.Extension x) = value.Extension x

  abbrev pub challenge_of : Drawn Su F EF U O C K Ac D G It St Sy → Challenge F EF
  challenge_of (drawn.Scalars xs) = value.OfScalars xs.items
  challenge_of (drawn.Extensions xs) = value.OfExtensions xs.items
  challenge_of (drawn.Bits xs) = value.OfBits xs.items

  abbrev pub drawn_of : Option (Drawn Su F EF U O C K Ac D G It St Sy) → Option (Challenge F EF)
  drawn_of None = None
  drawn_of (Some drawn) = Some (challenge_of drawn)

  abbrev pub received_of : Option (Received Su F EF U O C K Ac D G It St Sy) → List (Value F EF)
  received_of None = []
  received_of (Some received) = value_received received ∷ []

  abbrev pub values_received : List (Received Su F EF U O C K Ac D G It St Sy) → List (Value F EF)
  values_received xs = map value_received xs

  abbrev pub values_sent : List (Sent Su F EF U O C K Ac D G It St Sy) → List (Value F EF)
  values_sent xs = map value_sent xs

  abbrev pub challenges_of : List (Drawn Su F EF U O C K Ac D G It St Sy) → List (Challenge F EF)
  challenges_of xs = map challenge_of xs
