-- How many bytes an answer takes for each step that has a form.
use Rattle.std.proofs.Common.{◌≡◌, ℕ, ◌+◌, ◌*◌, ◌≤◌, List, [], ◌∷◌, length, Some, ap, arith}
use Rattle.std.{proofs.lemmas.List.length-append, specs.List.{flat_map, sum_by}}
use Rattle.p3_challenger.specs.{BigEndian.{count_bytes, count_width}, BigEndianLaws.length-in_bytes}
use Rattle.p3_fs_core.specs.CountLaws.{count_width-most}
use Rattle.p3_challenger.specs.{Plays.{Play, Any, HasLength, HasAtMost}, Rules.Rules, Scripts.{play_of, counting, work_in}}
use Rattle.p3_challenger.specs.Scripts.{sends_bytes, sends_counted_bytes, hints, hints_counted, sends_one, sends_list}
use Rattle.p3_challenger.specs.Scripts.{sends_counted, sends_work, carries_work}
use Rattle.p3_challenger.specs.Runs.{if_in_proof, if_sent, if_carried, if_witness}
use Rattle.p3_challenger.specs.{Working.checking, Values.{Value, bytes_in, scalar_in, scalars_in}}
use Rattle.p3_challenger.specs.Values.{extension_in, witness_in}
use Rattle.p3_challenger.specs.Effects.{untouched, observing, observing_list, observing_bytes}
use Rattle.p3_challenger.specs.Kind.TheVariants as kind
use Rattle.p3_challenger.specs.Values as value
use Rattle.p3_challenger.specs.Step as script
use Rattle.p3_challenger.specs.Step.TheVariants as step
use Rattle.tealmuze_calls.specs.{Descriptions.HasForm, Rooms.drawn_room}
use Rattle.tealmuze_calls.proofs.Sizes.{DrawsWithin, ReceivedWithin, SentWithin, known-quiet, effect-quiet, one-drawn, list-drawn}
use Rattle.tealmuze_calls.proofs.Sizes.{value_size, challenge_size, rows-least, rows-most}
use Rattle.tealmuze_calls.proofs.Sizes.{alone-size, bytes-alone, scalars-alone, extension-alone}
use Rattle.tealmuze_calls.proofs.Sizes.{drawn_scalars-size, drawn_extensions-size, drawn_bits-size}
use Rattle.tealmuze_calls.proofs.Sizes.{by_bytes, by_scalar, by_scalars, by_extension, by_witness}

module _ {F EF O Ac I S Symbol : Type 0} (rules : Rules S Symbol I F EF O Ac) (number : F → ℕ)
    (coefficients : EF → List F) (opaque_numbers : O → List ℕ) (AreOpaque : List ℕ → Type 0) (dimension : ℕ)
    (long : (x : EF) → length (coefficients x) ≡ dimension) where
  -- ---- what is drawn

  pub step-drawn : {Su U C K D G : Type 0} (x : script.Step Su F EF U O C K Ac D G I S Symbol) →
      HasForm number coefficients opaque_numbers AreOpaque x → DrawsWithin number coefficients (play_of rules)
      (HasForm number coefficients opaque_numbers AreOpaque) (drawn_room dimension) x
  step-drawn (step.ChallengeExtensionsRejecting label n accept limit) f v s = absurd f
  step-drawn (step.ChallengeUniformBitsRejecting label width n accept limit) f v s = absurd f
  step-drawn (step.ChallengeScalar label) f v s =
      one-drawn (challenge_size number coefficients) (λ x. value.OfScalars (x ∷ [])) 17
      (λ x. omega (arith, drawn_scalars-size number coefficients (x ∷ []))) (rules.scalar.sampling.sampled s)
  step-drawn (step.ChallengeExtension label) f v s =
      one-drawn (challenge_size number coefficients) (λ x. value.OfExtensions (x ∷ [])) (9 + dimension * 8)
      (λ x. omega (arith, drawn_extensions-size number coefficients dimension long (x ∷ [])))
      (rules.extension.sampling.sampled s)
  step-drawn (step.ChallengeScalars label n) f v s =
      list-drawn (challenge_size number coefficients) rules.scalar.sampling value.OfScalars n (9 + n * 8)
      (λ xs is. omega (arith, rw is at (drawn_scalars-size number coefficients xs))) s
  step-drawn (step.ChallengeExtensions label n) f v s =
      list-drawn (challenge_size number coefficients) rules.extension.sampling value.OfExtensions n (9 + n * (dimension * 8))
      (λ xs is. omega (arith, rw is at (drawn_extensions-size number coefficients dimension long xs))) s
  step-drawn (step.ChallengeBits label width n) f v s =
      list-drawn (challenge_size number coefficients) (rules.bits.plain width) value.OfBits n (9 + n * 8)
      (λ xs is. omega (arith, rw is at (drawn_bits-size number coefficients xs))) s
  step-drawn (step.ChallengeUniformBits label width n) f v s =
      list-drawn (challenge_size number coefficients) (rules.bits.uniform width) value.OfBits n (9 + n * 8)
      (λ xs is. omega (arith, rw is at (drawn_bits-size number coefficients xs))) s
  step-drawn (step.Hint label len) f v s =
      omega (arith, effect-quiet (challenge_size number coefficients) {S = S} {Symbol = Symbol} untouched (bytes_in v) s)
  step-drawn (step.HintBounded label max) f v s =
      omega (arith, effect-quiet (challenge_size number coefficients) {S = S} {Symbol = Symbol} untouched (bytes_in v) s)
  step-drawn (step.Salt label len) f v s =
      omega (arith, effect-quiet (challenge_size number coefficients) (observing_bytes rules.alphabet) (bytes_in v) s)
  step-drawn (step.Bytes label len) f v s =
      omega (arith, effect-quiet (challenge_size number coefficients) (observing_bytes rules.alphabet) (bytes_in v) s)
  step-drawn (step.BytesBounded label max) f v s =
      omega (arith, effect-quiet (challenge_size number coefficients) (counting rules max (observing_bytes rules.alphabet)) (bytes_in v) s)
  step-drawn (step.Scalar label) f v s =
      omega (arith, effect-quiet (challenge_size number coefficients) (observing rules.scalar.observation) (scalar_in v) s)
  step-drawn (step.Scalars label n) f v s =
      omega (arith, effect-quiet (challenge_size number coefficients) (observing_list rules.scalar.observation) (scalars_in v) s)
  step-drawn (step.ScalarsBounded label max) f v s =
      omega (arith, effect-quiet (challenge_size number coefficients) (counting rules max (observing_list rules.scalar.observation)) (scalars_in v) s)
  step-drawn (step.Extension label) f v s =
      omega (arith, effect-quiet (challenge_size number coefficients) (observing rules.extension.observation) (extension_in v) s)
  step-drawn (step.Pow label bits) f v s =
      omega (arith, effect-quiet (challenge_size number coefficients) (λ x. checking (work_in rules label.now bits) x) (witness_in v) s)
  step-drawn (step.ObservePow label bits) f v s =
      omega (arith, effect-quiet (challenge_size number coefficients) (λ x. checking (work_in rules label.now bits) x) (witness_in v) s)
  step-drawn (step.Opaque label x) f v s =
      omega (arith, known-quiet (challenge_size number coefficients) (Some x))
  step-drawn _ f v s = omega arith

  -- ---- what is received

  abbrev Received : Play S Symbol F EF O → Value F EF → Type 0
  Received play v =
      sum_by (value_size number coefficients) (if_in_proof play.place v) ≤ 31 + 8 * length (play.wire v)

  module _ (some : (x : F) → 1 ≤ length (rules.scalar.encoding.wire x))
      (coded : (x : EF) → rules.extension.encoding.wire x ≡ flat_map rules.scalar.encoding.wire (coefficients x)) where
    pub step-received : {Su U C K D G : Type 0} (x : script.Step Su F EF U O C K Ac D G I S Symbol) →
        HasForm number coefficients opaque_numbers AreOpaque x → ReceivedWithin number coefficients (play_of rules)
        (HasForm number coefficients opaque_numbers AreOpaque) (drawn_room dimension) x
    step-received (step.Salt label len) f v fits = by_bytes (Received (sends_bytes rules kind.Salt label.now len)) (HasLength len)
        (λ bytes fit. omega (arith, bytes-alone number coefficients bytes)) v fits
    step-received (step.Bytes label len) f v fits = by_bytes (Received (sends_bytes rules kind.Message label.now len)) (HasLength len)
        (λ bytes fit. omega (arith, bytes-alone number coefficients bytes)) v fits
    step-received (step.Hint label len) f v fits = by_bytes (Received (hints rules label.now len)) (HasLength len)
        (λ bytes fit. omega (arith, bytes-alone number coefficients bytes)) v fits
    step-received (step.BytesBounded label max) f v fits = by_bytes (Received (sends_counted_bytes rules label.now max)) (HasAtMost max)
        (λ bytes fit. omega (
          arith,
          bytes-alone number coefficients bytes,
          length-append (count_bytes max (length bytes)) bytes,
        )) v fits
    step-received (step.HintBounded label max) f v fits = by_bytes (Received (hints_counted rules label.now max)) (HasAtMost max)
        (λ bytes fit. omega (
          arith,
          bytes-alone number coefficients bytes,
          length-append (count_bytes max (length bytes)) bytes,
        )) v fits
    step-received (step.Scalar label) f v fits = by_scalar (Received (sends_one rules rules.scalar scalar_in label.now)) Any
        (λ x fit. omega (arith, alone-size number coefficients (value.Scalar x))) v fits
    step-received (step.Scalars label n) f v fits = by_scalars (Received (sends_list rules rules.scalar scalars_in label.now n)) (HasLength n)
        (λ xs fit. omega (
          arith,
          scalars-alone number coefficients xs,
          rows-least rules.scalar.encoding.wire some xs,
        )) v fits
    step-received (step.ScalarsBounded label max) f v fits = by_scalars (Received (sends_counted rules rules.scalar scalars_in label.now max))
        (HasAtMost max) (λ xs fit. omega (
          arith,
          scalars-alone number coefficients xs,
          rows-least rules.scalar.encoding.wire some xs,
          length-append (count_bytes max (length xs)) (flat_map rules.scalar.encoding.wire xs),
        )) v fits
    step-received (step.Extension label) f v fits = by_extension (Received (sends_one rules rules.extension extension_in label.now)) Any
        (λ x fit. omega (
          arith,
          extension-alone number coefficients x,
          rows-least rules.scalar.encoding.wire some (coefficients x),
          ap (λ bytes. length bytes) (coded x),
        )) v fits
    step-received (step.Pow label bits) f v fits = by_witness (Received (sends_work rules label.now bits)) (λ _. rules.grinding.is_there)
        (λ x fit. omega (arith, alone-size number coefficients (value.Witness x))) v fits
    step-received _ f v fits = omega arith

  -- ---- what is sent

  abbrev Sent : Play S Symbol F EF O → Value F EF → Type 0
  Sent play v = length (play.wire v) + 8 * length (if_witness play.place v) + 8 * length (if_carried play.place v)
      ≤ 31 + 8 * sum_by (value_size number coefficients) (if_sent play.place v)

  module _ (short : (x : F) → length (rules.scalar.encoding.wire x) ≤ 64)
      (witness_short : (x : F) → length (rules.witness_encoding.wire x) ≤ 23)
      (coded : (x : EF) → rules.extension.encoding.wire x ≡ flat_map rules.scalar.encoding.wire (coefficients x)) where
    count-short : (max n : ℕ) → length (count_bytes max n) ≤ 8
    count-short max n = omega (arith, length-in_bytes (count_width max) n, count_width-most max)

    pub step-sent : {Su U C K D G : Type 0} (x : script.Step Su F EF U O C K Ac D G I S Symbol) →
        HasForm number coefficients opaque_numbers AreOpaque x → SentWithin number coefficients (play_of rules)
        (HasForm number coefficients opaque_numbers AreOpaque) (drawn_room dimension) x
    step-sent (step.Salt label len) f v fits = by_bytes (Sent (sends_bytes rules kind.Salt label.now len)) (HasLength len)
        (λ bytes fit. omega (arith, bytes-alone number coefficients bytes)) v fits
    step-sent (step.Bytes label len) f v fits = by_bytes (Sent (sends_bytes rules kind.Message label.now len)) (HasLength len)
        (λ bytes fit. omega (arith, bytes-alone number coefficients bytes)) v fits
    step-sent (step.Hint label len) f v fits = by_bytes (Sent (hints rules label.now len)) (HasLength len)
        (λ bytes fit. omega (arith, bytes-alone number coefficients bytes)) v fits
    step-sent (step.BytesBounded label max) f v fits = by_bytes (Sent (sends_counted_bytes rules label.now max)) (HasAtMost max)
        (λ bytes fit. omega (
          arith,
          bytes-alone number coefficients bytes,
          length-append (count_bytes max (length bytes)) bytes,
          count-short max (length bytes),
        )) v fits
    step-sent (step.HintBounded label max) f v fits = by_bytes (Sent (hints_counted rules label.now max)) (HasAtMost max)
        (λ bytes fit. omega (
          arith,
          bytes-alone number coefficients bytes,
          length-append (count_bytes max (length bytes)) bytes,
          count-short max (length bytes),
        )) v fits
    step-sent (step.Scalar label) f v fits = by_scalar (Sent (sends_one rules rules.scalar scalar_in label.now)) Any
        (λ x fit. omega (arith, alone-size number coefficients (value.Scalar x), short x)) v fits
    step-sent (step.Scalars label n) f v fits = by_scalars (Sent (sends_list rules rules.scalar scalars_in label.now n)) (HasLength n)
        (λ xs fit. omega (
          arith,
          scalars-alone number coefficients xs,
          rows-most rules.scalar.encoding.wire 64 short xs,
        )) v fits
    step-sent (step.ScalarsBounded label max) f v fits = by_scalars (Sent (sends_counted rules rules.scalar scalars_in label.now max))
        (HasAtMost max) (λ xs fit. omega (
          arith,
          scalars-alone number coefficients xs,
          rows-most rules.scalar.encoding.wire 64 short xs,
          length-append (count_bytes max (length xs)) (flat_map rules.scalar.encoding.wire xs),
          count-short max (length xs),
        )) v fits
    step-sent (step.Extension label) f v fits = by_extension (Sent (sends_one rules rules.extension extension_in label.now)) Any
        (λ x fit. omega (
          arith,
          extension-alone number coefficients x,
          rows-most rules.scalar.encoding.wire 64 short (coefficients x),
          ap (λ bytes. length bytes) (coded x),
        )) v fits
    step-sent (step.Pow label bits) f v fits = by_witness (Sent (sends_work rules label.now bits)) (λ _. rules.grinding.is_there)
        (λ x fit. omega (arith, witness_short x)) v fits
    step-sent (step.ObservePow label bits) f v fits = by_witness (Sent (carries_work rules label.now bits))
        (λ _. rules.grinding.is_there) (λ x fit. omega arith) v fits
    step-sent _ f v fits = omega arith
