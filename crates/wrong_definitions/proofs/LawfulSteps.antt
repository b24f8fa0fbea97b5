-- Suites and steps of scripts, each with one thing wrong, and that the laws of steps of scripts are false of them.
use Rattle.std.proofs.Common.{◌≡◌, ℕ, ◌%◌, ◌⊎◌, [], ◌∷◌, codes, replicate, inl, inr, None, false, refl, arith, lit<}
use Rattle.p3_challenger_core.specs.declared.error.ChallengerError.TheVariants.{DrawLimit}
use Rattle.p3_fs_core.specs.{Errors.IsBadShape, StepFits.{FitsLength, IsProgramStep}, Steps.algebra_step}
use Rattle.p3_fs_core.specs.declared.error.TranscriptError.TheVariants.{Pattern, BadProofShape, Challenger}
use Rattle.p3_fs_core.specs.declared.{error.PatternError.TheVariants.Finished, step.Kind.Kind, step.Length.Length}
use Rattle.p3_patterns.specs.{PatternSteps.PatternSteps, Playing.next_step}
use Rattle.p3_driver_core.specs.{Driving.Driving, Transcripts.{Transcript, IsOtherLength, another_length, halted}}
use Rattle.p3_runs.specs.{Plays.Play, Rules.Rules, Sides.{Refusing, Sides}, Stepping.{CanTake, CanSend, OrHalts}}
use Rattle.p3_runs.specs.Stepping.{RefuseForOneReason}
use Rattle.p3_script.specs.{Scripts.play_of, ScriptRefusals.sides_of, ScriptLaws.{AreAllCanonical, AreTakenWherePossible, AreSentWherePossible}}
use Rattle.p3_fs_core.specs.declared.step.Kind.TheVariants as kind
use Rattle.p3_fs_core.specs.declared.step.Length.TheVariants as lengths
use Rattle.p3_runs.specs.Values as value
use Rattle.p3_script.specs.declared.steps.Step.TheVariants as step
use Rattle.wrong_definitions.proofs.{Bytes.are_bytes, Patterns.pattern_of_one}
use Rattle.wrong_definitions.proofs.World.{Nil, Step, coding, rules, draw, label, no_numbers}

abbrev WorldRules : Type 1
WorldRules = Rules ℕ ℕ ℕ ℕ ℕ ℕ (Unit {0})

-- a step of numbers, alone in its pattern
is_program_step : (for_what : Kind) (n : Length) → FitsLength n →
    IsProgramStep (algebra_step for_what (codes "a") coding.algebra n)
is_program_step for_what n fits =
    record {
      fits = record {
        label = lit< tt;
        carried = fits;
        tag = (lit< tt, (lit< tt, refl, are_bytes (replicate 32 0) refl));
      };
      label = are_bytes (codes "a") refl;
      type_name = are_bytes (codes "number") refl;
    }

abbrev pattern_of : (for_what : Kind) (n : Length) → FitsLength n → PatternSteps
pattern_of for_what n fits =
    pattern_of_one (algebra_step for_what (codes "a") coding.algebra n) refl (is_program_step for_what n fits)

-- a driver before it, with no byte of a proof
abbrev before : PatternSteps → Transcript ℕ
before pattern = record { challenger = 0; playing = record { pattern = pattern; position = 0; finished = false } }

abbrev driving : Transcript ℕ → Driving ℕ
driving transcript = record { transcript = transcript; bytes = [] }

-- ---- numbers encoded as their lowest byte

abbrev lowest_byte : WorldRules
lowest_byte = record rules {
  scalar = record coding { encoding = record (coding.encoding) { wire = λ x. x % 256 ∷ [] } };
}

-- 0 and 256 have the same bytes
lowest_byte-refused : ¬ (AreAllCanonical Nil Nil Nil Nil Nil Nil ℕ ℕ ℕ lowest_byte)
lowest_byte-refused told =
    let same = (told (step.Scalar (label (codes "a"))) tt).one_way (value.Scalar 0) (value.Scalar 256) [] [] [] [] tt tt
    refl refl in
    let values : ◌≡◌ {A = value.Value ℕ ℕ} (value.Scalar 0) (value.Scalar 256) = same.0 in
    let numbers : ◌≡◌ {A = ℕ} 0 256 = cc in absurd (omega (arith, numbers))

-- ---- draws that may meet their limit where they give a value

abbrev limited_at_times : WorldRules
limited_at_times = record rules {
  scalar = record coding { sampling = record draw { meets_limit = λ _. Unit {0} } };
}

abbrev challenge : Step
challenge = step.ChallengeScalar (label (codes "a"))

abbrev drawing : Play ℕ ℕ ℕ ℕ ℕ
drawing = play_of limited_at_times challenge

abbrev challenge_pattern : PatternSteps
challenge_pattern = pattern_of kind.Challenge lengths.Scalar tt

-- a verifier may play the step, and is refused it, and so may a prover
limited_at_times-taken_not : ¬ (AreTakenWherePossible Nil Nil Nil Nil Nil Nil ℕ ℕ ℕ limited_at_times)
limited_at_times-taken_not told =
    let start : Driving ℕ = driving (before challenge_pattern) in
    let end : Driving ℕ = driving (halted (before challenge_pattern)) in
    let refuses : (sides_of limited_at_times challenge).verifier None start (Challenger DrawLimit) end =
    (record { is_next = (refl, refl); leaves = (tt, refl); finished = refl }, refl) in
    let can : CanTake drawing start value.Nothing =
    record { is_next = (refl, refl); fits = tt; short = tt; gives = refl; left = []; next = refl } in
    let memory = (told challenge tt tt).only_memory None start end (Challenger DrawLimit) value.Nothing refuses refl can
    in
    cc

limited_at_times-sent_not : ¬ (AreSentWherePossible Nil Nil Nil Nil Nil Nil ℕ ℕ ℕ limited_at_times)
limited_at_times-sent_not told =
    let start : Driving ℕ = driving (before challenge_pattern) in
    let end : Driving ℕ = driving (halted (before challenge_pattern)) in
    let refuses : (sides_of limited_at_times challenge).prover value.Nothing start (Challenger DrawLimit) end =
    (record { is_next = (refl, refl); leaves = (tt, refl); finished = refl }, refl) in
    let can : CanSend drawing start value.Nothing =
    record { is_next = (refl, refl); fits = tt; short = tt; gives = refl; chosen = tt } in
    let memory = (told challenge tt tt).only_memory value.Nothing value.Nothing start end (Challenger DrawLimit) tt
    refuses refl can in
    cc

-- ---- a list that the verifier refuses for its length, also once a step was refused

-- there are no values, and the next step has some
abbrev refuses_none : Refusing ℕ
refuses_none start e end = IsOtherLength 0 (next_step start.transcript.playing) × IsBadShape another_length e

abbrev also_refuses_none : Sides ℕ ℕ ℕ → Sides ℕ ℕ ℕ
also_refuses_none sides = record sides {
  verifier = λ witness start e end. refuses_none start e end ⊎ sides.verifier witness start e end;
}

abbrev one_pattern : PatternSteps
one_pattern = pattern_of kind.Message (lengths.Fixed 1) (lit< tt)

-- a step of no values
abbrev none_observed : Step
none_observed = step.ObserveExtensions (label (codes "a")) no_numbers

also_length-refused : ¬ ((x : Step) → (play_of rules x).admitted →
    RefuseForOneReason (also_refuses_none (sides_of rules x)))
also_length-refused told =
    let sides : Sides ℕ ℕ ℕ = also_refuses_none (sides_of rules none_observed) in
    let start : Driving ℕ = driving (halted (before one_pattern)) in
    let length : OrHalts (sides.verifier None) start (BadProofShape (label another_length)) start =
    inl (inl ((λ (same : ◌≡◌ {A = ℕ} 1 0). absurd (omega (arith, same))), refl)) in
    let order : OrHalts (sides.verifier None) start (Pattern Finished) start =
    inl (inr (inl (record { playing = record { fault = inl (refl, refl); finished = refl }; challenger = refl }), refl))
    in
    let same = (told none_observed tt).verifier None start start start (BadProofShape (label another_length))
    (Pattern Finished) length order (λ e. cc) (λ e. cc) in
    cc
