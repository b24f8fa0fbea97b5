-- Steps of drivers, each with one thing wrong, and that the laws of steps are false of them.
use Rattle.std.proofs.Common.{◌≡◌, ℕ, ◌<◌, ◌≤◌, ◌+◌, ◌^◌, ◌⊎◌, List, [], ◌∷◌, ◌++◌, length, take, drop, codes}
use Rattle.std.proofs.Common.{nat_lt, if◌then◌else◌, true, false, inl, inr, Option, Some, None, Result, Ok, Err}
use Rattle.std.proofs.Common.{refl, ap, arith, lit<, lit≤, reverse, ◌-◌}
use Rattle.p3_challenger_core.specs.{Reading.AreBytes}
use Rattle.p3_challenger_core.specs.Sampling.{Sampling, RefusesDraw}
use Rattle.p3_challenger_core.specs.declared.error.ChallengerError.TheVariants.{DrawLimit, NoWitness}
use Rattle.p3_fs_core.specs.{Alphabet.{Alphabet, RefusesBytes, alphabet_of}, Encoding.Encoding}
use Rattle.p3_fs_core.specs.{BigEndian.{big_endian, count_bytes, count_width}, Steps.Step, StepFits.IsProgramStep}
use Rattle.p3_fs_core.specs.declared.error.TranscriptError.{TranscriptError}
use Rattle.p3_fs_core.specs.declared.error.TranscriptError.TheVariants.{Pattern, BadProofShape, Challenger}
use Rattle.p3_fs_core.specs.declared.{error.PatternError.TheVariants.Finished, step.Kind.TheVariants.Hint}
use Rattle.p3_fs_core.specs.declared.step.Length.TheVariants.{Fixed}
use Rattle.p3_patterns.specs.Playing.{Playing}
use Rattle.p3_driver_core.specs.Effects.{Effect, observing_list, observing_bytes, drawing}
use Rattle.p3_driver_core.specs.{Meanings.{sent, hinted, hinted_bounded, drawn}, Driving.Driving}
use Rattle.p3_driver_core.specs.{Verifying.{Receives, RefusesToRead}, Working.{Work, sent_work}}
use Rattle.p3_driver_core.specs.Reads.{Reading, Read, Unreadable, received, hint_received_bounded, read_bytes}
use Rattle.p3_driver_core.specs.Reads.{hint_received, received_work, then_read, unreadable, ended_early, hint_too_long}
use Rattle.p3_driver_core.specs.Transcripts.{Meaning, Transcript, PlaysStep, Abandons, bytes_step, without_wire}
use Rattle.p3_driver_core.specs.Transcripts.{step_on, halted}
use Rattle.p3_driver_core.specs.Rejecting.{Rule, keeps, taken, RefusesKeeps, RefusesTaken, drawing_rejecting}
use Rattle.p3_step_laws.specs.{ReadBack.{ReadsBack, OnlyReads, AnyValue}, Completeness.Completes}
use Rattle.p3_step_laws.specs.Mirrored.{EachHint, EachCountedHint, EachCountedList, EachWork}
use Rattle.p3_step_laws.specs.OneReason.{TellsLimits, TellOneReason, HasOneReason, OnlyMemoryRefuses}
use Rattle.p3_fs_core.specs.Scalar as scalar
use Rattle.wrong_definitions.proofs.{Bytes.are_bytes, Patterns.pattern_of_one}
use Rattle.wrong_definitions.proofs.World.{rules, value, draw, one_place, label}

-- ---- what is read is encoded so

-- an element in two bytes, of which a number at or above the order is reduced
abbrev read_reduced : List ℕ → Result (ℕ × List ℕ) (List ℕ)
read_reduced bytes =
    if nat_lt (length bytes) 2
    then Err scalar.not_enough_bytes
    else Ok (rules.residues.of (big_endian (take 2 bytes)), drop 2 bytes)

abbrev with_reduction : Encoding ℕ
with_reduction = record (scalar.encoding rules.residues 9) { read = read_reduced }

-- 257 is read as 0
with_reduction-refused : (step : Step) →
    ¬ (OnlyReads (received step value with_reduction) AnyValue (sent step value with_reduction))
with_reduction-refused step told =
    let bytes : AreBytes (1 ∷ 1 ∷ []) = are_bytes (1 ∷ 1 ∷ []) refl in
    let same : ◌≡◌ {A = List ℕ} (1 ∷ 1 ∷ []) (0 ∷ 0 ∷ []) = told.encoded (1 ∷ 1 ∷ []) 0 [] bytes refl in
    let first : ◌≡◌ {A = ℕ} 1 0 = cc in absurd (omega (arith, first))

-- a hint after its count, which is not held against the most
abbrev read_any_count : {S : Type 0} → ℕ → List ℕ → Read S ℕ
read_any_count max bytes =
    if nat_lt (length bytes) (count_width max) then unreadable ended_early bytes
    else Ok (big_endian (take (count_width max) bytes), drop (count_width max) bytes)

abbrev received_of_any_count : List ℕ → ℕ → Reading ℕ ℕ (List ℕ)
received_of_any_count label max =
    record (hint_received_bounded label max) { read = λ bytes. then_read read_bytes (read_any_count max bytes) }

-- two bytes are read where one may be
any_count-refused : ¬ ((label : List ℕ) (max : ℕ) →
    OnlyReads (received_of_any_count label max) (λ bytes. length bytes ≤ max) (hinted_bounded label max))
unfolding count_width
any_count-refused told =
    let bytes : AreBytes (2 ∷ 5 ∷ 7 ∷ []) = are_bytes (2 ∷ 5 ∷ 7 ∷ []) refl in
    let few : ◌≤◌ 2 1 = (told [] 1).fits (2 ∷ 5 ∷ 7 ∷ []) (5 ∷ 7 ∷ []) [] bytes refl in absurd (omega (arith, few))

-- ---- what is written is read

-- a hint after its count, as one side sends it and the other one reads it
abbrev CountedHintsAreReadBack : (List ℕ → ℕ → List ℕ → Meaning ℕ ℕ (List ℕ)) →
    (List ℕ → ℕ → Reading ℕ ℕ (List ℕ)) → Type 0
CountedHintsAreReadBack sent received = (label : List ℕ) (max : ℕ) (bytes : List ℕ) → length bytes ≤ max →
    max < 2 ^ 64 → ReadsBack (sent label max bytes) (received label max) bytes

-- of the steps as they stand this is what the law says
hints_as_the_law : EachCountedHint {S = ℕ} {Symbol = ℕ} ReadsBack ≡
    CountedHintsAreReadBack hinted_bounded hint_received_bounded
hints_as_the_law = refl

-- the sender leaves the count out
abbrev sent_without_count : List ℕ → ℕ → List ℕ → Meaning ℕ ℕ (List ℕ)
sent_without_count label max bytes = record (hinted_bounded label max bytes) { wire = bytes }

-- the byte 7 is read as a count
without_count-refused : ¬ (CountedHintsAreReadBack sent_without_count hint_received_bounded)
unfolding count_width
without_count-refused told =
    let read : ◌≡◌ {A = Read ℕ (List ℕ)} (unreadable hint_too_long []) (Ok (7 ∷ [], [])) =
    (told [] 1 (7 ∷ []) (lit≤ tt) (lit< tt)).reads_back [] in
    cc

-- the reader does so too, and takes what is left, up to the most
abbrev received_without_count : List ℕ → ℕ → Reading ℕ ℕ (List ℕ)
received_without_count label max =
    record (hint_received_bounded label max) { read = λ bytes. Ok (take max bytes, drop max bytes) }

abbrev count_read : Read ℕ (List ℕ) → ℕ
count_read (Ok found) = length found.0
count_read (Err failure) = 0

-- with the byte 8 after it, 7 and 8 are read
neither_count-refused : ¬ (CountedHintsAreReadBack sent_without_count received_without_count)
neither_count-refused told =
    let read : ◌≡◌ {A = Read ℕ (List ℕ)} (Ok (7 ∷ 8 ∷ [], [])) (Ok (7 ∷ [], 8 ∷ [])) =
    (told [] 2 (7 ∷ []) (lit≤ tt) (lit< tt)).reads_back (8 ∷ []) in
    let counts : ◌≡◌ {A = ℕ} 2 1 = ap count_read read in absurd (omega (arith, counts))

-- the sender writes the count with its lowest byte first
abbrev sent_lowest_first : List ℕ → ℕ → List ℕ → Meaning ℕ ℕ (List ℕ)
sent_lowest_first label max bytes =
    record (hinted_bounded label max bytes) { wire = reverse (count_bytes max (length bytes)) ++ bytes }

-- of at most 256 bytes, one is read as 256
lowest_first-refused : ¬ (CountedHintsAreReadBack sent_lowest_first hint_received_bounded)
unfolding count_width
lowest_first-refused told =
    let read : ◌≡◌ {A = Read ℕ (List ℕ)} (unreadable ended_early (7 ∷ [])) (Ok (7 ∷ [], [])) =
    (told [] 256 (7 ∷ []) (lit≤ tt) (lit< tt)).reads_back [] in
    cc

-- ---- in a pattern of one step

abbrev step : Step
step = bytes_step Hint (codes "a") (Fixed 1)

is_program_step : IsProgramStep step
is_program_step =
    record {
      fits = record { label = lit< tt; carried = lit< tt; tag = tt };
      label = are_bytes (codes "a") refl;
      type_name = are_bytes (codes "u8") refl;
    }

abbrev playing : Playing
playing = record { pattern = pattern_of_one step refl is_program_step; position = 0; finished = false }

abbrev before : Transcript ℕ
before = record { challenger = 0; playing = playing }

-- ---- the verifier does to the challenger what the prover does

abbrev alphabet : Alphabet ℕ ℕ ℕ
alphabet = alphabet_of (λ bytes. bytes) (λ _. ⊥) value (λ _ _ _. ⊥)

-- a list after its count, of which the reader does not observe the count
abbrev ReadsBackUncounted : Meaning ℕ ℕ (List ℕ) → Reading ℕ ℕ (List ℕ) → List ℕ → Type 0
ReadsBackUncounted m r xs = ReadsBack m (record r { effect = observing_list value }) xs

uncounted-refused : ¬ (EachCountedList ReadsBackUncounted alphabet value one_place)
unfolding count_width
uncounted-refused told =
    let after : ◌≡◌ {A = ℕ} 5 0 = (told step 1 [] (lit≤ tt) (lit< tt)).after 5 in absurd (omega (arith, after))

-- the reader observes the bytes of a hint
abbrev CompletesObserving : Meaning ℕ ℕ (List ℕ) → Reading ℕ ℕ (List ℕ) → List ℕ → Type 0
CompletesObserving m r bytes = Completes m (record r { effect = observing_bytes alphabet }) bytes

-- it ends with a challenger that is not the prover's
observed_hint-refused : ¬ (EachHint CompletesObserving)
observed_hint-refused told =
    let after : Transcript ℕ = record { challenger = 0; playing = step_on playing } in
    let plays : PlaysStep {Symbol = ℕ} (hinted (codes "a") (7 ∷ [])) before (7 ∷ []) after =
    record { is_next = (refl, refl); fits = tt; gives = refl; challenger = refl; playing = refl } in
    let start : Driving ℕ = record { transcript = before; bytes = 7 ∷ [] } in
    let end : Driving ℕ = record { transcript = record { challenger = 7; playing = step_on playing }; bytes = [] } in
    let observing : Reading ℕ ℕ (List ℕ) =
    record (hint_received {Symbol = ℕ} (codes "a") 1) { effect = observing_bytes alphabet } in
    let receives : Receives observing start (7 ∷ []) end = record {
      is_next = (refl, refl);
      read = refl;
      fits = λ long. long;
      gives = refl;
      challenger = refl;
      playing = refl;
    } in
    let same = (told (codes "a") (7 ∷ [])).receives before after [] start end (7 ∷ []) plays refl receives in
    let challengers : ◌≡◌ {A = ℕ} 7 0 = ap (λ (d : Driving ℕ). d.transcript.challenger) same.1 in
    absurd (omega (arith, challengers))

-- the verifier checks the witness 0, whatever it read
abbrev ChecksNone : Work ℕ ℕ ℕ → Encoding ℕ → Type 0
ChecksNone work wire = (x : ℕ) →
    ReadsBack (sent_work work wire x) (received_work (record work { check = λ _. work.check 0 }) wire) x

-- 1 passes with it, and is not a witness
none_checked-refused : ¬ (EachWork ChecksNone rules.residues 9 rules.grinding.before_witness value (λ _. draw))
none_checked-refused told =
    let gives : ◌≡◌ {A = Option ℕ} (Some 1) None = (told step 1 1).gives 0 in cc

-- ---- a step is refused for one reason

-- a draw that meets its limit
abbrev limited : Sampling ℕ ℕ
limited = record draw { sampled = λ _. None; meets_limit = λ _. Unit {0} }

-- there the error is the draw limit, or that there is no witness
abbrev drawing_of_two_reasons : Effect ℕ ℕ ℕ
drawing_of_two_reasons = record (drawing {Symbol = ℕ} limited) {
  refuses = λ e s t. RefusesDraw limited e s t ⊎ (RefusesDraw limited DrawLimit s t × (e ≡ NoWitness));
}

two_reasons-refused : ¬ ((s : Step) → HasOneReason (without_wire s drawing_of_two_reasons))
two_reasons-refused told =
    let limit : Abandons step before (drawing_of_two_reasons.refuses DrawLimit) (halted before) =
    record { is_next = (refl, refl); leaves = inl (tt, refl); finished = refl } in
    let witness : Abandons step before (drawing_of_two_reasons.refuses NoWitness) (halted before) =
    record { is_next = (refl, refl); leaves = inr ((tt, refl), refl); finished = refl } in
    let same = told step before (halted before) (halted before) (Challenger DrawLimit) (Challenger NoWitness) limit
    witness (λ e. cc) (λ e. cc) in
    cc

two_reasons-tell_limits_not : ¬ (TellsLimits drawing_of_two_reasons)
two_reasons-tell_limits_not told = told.witness 0 0 (inr ((tt, refl), refl))

-- bytes that encode no value are refused for it wherever the step stands
record ReadsNothingAnywhere (r : Reading ℕ ℕ ℕ) (start : Driving ℕ) (reason : List ℕ) (end : Driving ℕ) : Type 0 where
  failure : Unreadable ℕ
  read : r.read start.bytes ≡ Err failure
  reason_is : reason ≡ failure.reason
  unread : end.bytes ≡ failure.left
  challenger : end.transcript.challenger ≡ failure.absorbed start.transcript.challenger
  finished : end.transcript.playing.finished ≡ true

abbrev RefusesAnywhere : Reading ℕ ℕ ℕ → Driving ℕ → TranscriptError → Driving ℕ → Type 0
RefusesAnywhere r start (BadProofShape reason) end = ReadsNothingAnywhere r start reason.now end
RefusesAnywhere r start e end = RefusesToRead r start e end

-- after a refused step, with no bytes left: nothing may follow, or the proof ended early
anywhere-refused : ¬ ((s : Step) → TellOneReason (RefusesAnywhere (received s value one_place)))
anywhere-refused told =
    let start : Driving ℕ = record { transcript = halted before; bytes = [] } in
    let order : RefusesToRead (received step value one_place) start (Pattern Finished) start =
    (record { playing = record { fault = inl (refl, refl); finished = refl }; challenger = refl }, refl) in
    let early : ReadsNothingAnywhere (received step value one_place) start ended_early start = record {
      failure = record { reason = ended_early; left = []; absorbed = λ s. s };
      read = refl;
      reason_is = refl;
      unread = refl;
      challenger = refl;
      finished = refl;
    } in
    let same = told step start start start (Pattern Finished) (BadProofShape (label ended_early)) order early (λ e. cc)
    (λ e. cc) in
    cc

-- ---- an error tells the limit that is met

-- a draw that may meet its limit where it gives a value
abbrev limited_at_times : Sampling ℕ ℕ
limited_at_times = record draw { meets_limit = λ _. Unit {0} }

limited_at_times-tells_limits_not : ¬ (TellsLimits (drawing {Symbol = ℕ} limited_at_times))
limited_at_times-tells_limits_not told =
    let none : ◌≡◌ {A = Option ℕ} (Some 0) None = told.limit 0 0 (tt, refl) in cc

-- so one side may be refused, and not for memory, what the other one has played
limited_at_times-refused : ¬ ((s : Step) → OnlyMemoryRefuses {Symbol = ℕ} (drawn s limited_at_times))
limited_at_times-refused told =
    let after : Transcript ℕ = record { challenger = 0; playing = step_on playing } in
    let plays : PlaysStep {Symbol = ℕ} (drawn step limited_at_times) before 0 after =
    record { is_next = (refl, refl); fits = tt; gives = refl; challenger = refl; playing = refl } in
    let refuses : Abandons step before (RefusesDraw limited_at_times DrawLimit) (halted before) =
    record { is_next = (refl, refl); leaves = (tt, refl); finished = refl } in
    let memory = told step before after before (halted before) 0 (Challenger DrawLimit) plays refl refuses in cc

-- candidates of which one fewer may be refused in a row than the limit says
abbrev rejecting_one_fewer : Rule ℕ → ℕ → ℕ → Effect ℕ ℕ (List ℕ)
rejecting_one_fewer rule limit n =
    record (drawing_rejecting draw rule limit n) { refuses = λ e s t. RefusesKeeps draw rule (limit - 1) n [] e s t }

one_fewer-refused : ¬ ((rule : Rule ℕ) (limit n : ℕ) → TellsLimits (rejecting_one_fewer rule limit n))
unfolding RefusesKeeps RefusesTaken keeps taken
one_fewer-refused told =
    let none : ◌≡◌ {A = Option (List ℕ)} (Some (0 ∷ [])) None =
    (told (λ _ _. true) 1 1).limit 0 0 (inl (refl, refl)) in
    cc

-- an alphabet in which two bytes are too long, where bytes are refused as though there were one more
abbrev one_byte : Alphabet ℕ ℕ ℕ
one_byte = record alphabet { is_too_long = λ n. 2 ≤ n }

abbrev observing_one_more : List ℕ → Effect ℕ ℕ (List ℕ)
observing_one_more bytes = record (observing_bytes one_byte bytes) {
  refuses = λ e s t. RefusesBytes (one_byte.is_too_long (length bytes + 1)) (λ _. ⊥) s e t;
}

one_more-refused : ¬ ((bytes : List ℕ) → TellsLimits (observing_one_more bytes))
one_more-refused told =
    (told (7 ∷ [])).too_long 0 0 (lit≤ tt, refl) (λ long. let no : ◌≤◌ 2 1 = long in absurd (omega (arith, no)))
