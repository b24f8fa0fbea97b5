-- Steps of scripts, each kind with one thing wrong, and that what is said of runs is false of them.
use Rattle.std.proofs.Common.{◌≡◌, ℕ, ◌<◌, ◌^◌, true, List, [], ◌∷◌, length, take, codes, replicate, append_assoc, inl, inr}
use Rattle.std.{proofs.Common.{refl, sym, ap, arith, lit<, lit≤, Option, None}, proofs.lemmas.List.append-nil}
use denote.Bor.{Bor}
use Rattle.p3_fs_core.specs.{StepFits.{FitsLength, IsProgramStep}, Steps.algebra_step}
use Rattle.p3_fs_core.specs.declared.step.{Kind.Kind, Length.Length}
use Rattle.p3_patterns.specs.PatternSteps.{PatternSteps, steps_of}
use Rattle.p3_domain_separator.specs.{Separators.HeldSeparator, SeparatorSeed.seed_of}
use Rattle.p3_driver_core.specs.Effects.{Effect, observing_bytes, observing_list}
use Rattle.p3_driver_core.specs.Transcripts.{bytes_step}
use Rattle.p3_runs.specs.{Fronts.{Run, IsFinished}, Plays.{Play, effect_some, giving, no_challenge}, Rules.Rules}
use Rattle.p3_runs.specs.Values.{Value, Challenge, OfScalars, Bytes, Nothing, Scalars, bytes_in, scalars_in}
use Rattle.p3_binding.specs.{Binding.{FeedTheSame, SymbolsBind}, Hints.HintsDoNotInfluence}
use Rattle.p3_script.specs.Scripts.{play_of}
use Rattle.p3_fs_core.specs.declared.step.Kind.TheVariants as kind
use Rattle.p3_fs_core.specs.declared.step.Length.TheVariants as lengths
use Rattle.p3_runs.specs.Runs as runs
use Rattle.p3_script.specs.declared.steps.Step as script
use Rattle.p3_script.specs.declared.steps.Step.TheVariants as step
use Rattle.wrong_definitions.proofs.{Bytes.{all_bytes, are_bytes}, Patterns.pattern_of_two}
use Rattle.wrong_definitions.proofs.World.{Nil, Step, coding, rules, label, separator}

-- what a step does to the challenger with its value
abbrev Effects : (S Symbol F EF : Type 0) → Type 1
Effects S Symbol F EF = Value F EF → Effect S Symbol (Option (Challenge F EF))

module _ {S Symbol I F EF O Ac : Type 0} (r : Rules S Symbol I F EF O Ac) where
  -- this is done with a value of a type, where there is one
  abbrev doing : {A : Type 0} → (Value F EF → Option A) → (A → Effect S Symbol A) → Effects S Symbol F EF
  doing found effect v = effect_some None (λ x. giving no_challenge (effect x)) (found v)

  module _ {Su U C K D G It St Sy : Type 0} where
    -- a bounded list feeds its values alone, and not their count
    abbrev effects_without_count : script.Step Su F EF U O C K Ac D G It St Sy → Effects S Symbol F EF →
        Effects S Symbol F EF
    effects_without_count (step.BytesBounded label max) effects = doing bytes_in (observing_bytes r.alphabet)
    effects_without_count (step.ScalarsBounded label max) effects =
        doing scalars_in (observing_list r.scalar.observation)
    effects_without_count (step.PublicScalarsBounded label xs max) effects =
        λ _. giving no_challenge (observing_list r.scalar.observation xs.items)
    effects_without_count (step.ObserveExtensionsBounded label xs max) effects =
        λ _. giving no_challenge (observing_list r.extension.observation xs.items)
    effects_without_count _ effects = effects

    -- the bytes of a hint are observed
    abbrev effects_with_hints : script.Step Su F EF U O C K Ac D G It St Sy → Effects S Symbol F EF →
        Effects S Symbol F EF
    effects_with_hints (step.Hint label len) effects = doing bytes_in (observing_bytes r.alphabet)
    effects_with_hints (step.HintBounded label max) effects = doing bytes_in (observing_bytes r.alphabet)
    effects_with_hints _ effects = effects

    -- the steps of a script as they are, but for that
    abbrev play_without_count : script.Step Su F EF U O C K Ac D G It St Sy → Play S Symbol F EF O
    play_without_count x = record (play_of r x) { effect = effects_without_count x (play_of r x).effect }

    abbrev play_with_hints : script.Step Su F EF U O C K Ac D G It St Sy → Play S Symbol F EF O
    play_with_hints x = record (play_of r x) { effect = effects_with_hints x (play_of r x).effect }

-- ---- bounded lists without their counts

module _ {S Symbol I F EF O Ac : Type 0} (Su U C K D G It St Sy : Type 0) (r : Rules S Symbol I F EF O Ac) where
  abbrev Script : Type 0
  Script = script.Step Su F EF U O C K Ac D G It St Sy

  -- two lists, each of at most two scalars
  abbrev two_lists : Bor (List ℕ) → Bor (List ℕ) → List Script
  two_lists one other = step.ScalarsBounded one 2 ∷ step.ScalarsBounded other 2 ∷ []

  -- In any suite, under any separator of their pattern: two scalars and none feed the same as one and one, and not the
  -- same is absorbed.
  without_count-refused : (one other : Bor (List ℕ)) (sep : HeldSeparator) →
      steps_of sep.pattern ≡ runs.interactions (λ (x : Script). play_of r x) (two_lists one other) →
      ¬ (r.alphabet.is_too_long (length (seed_of r.digest_of sep))) → S → F →
      ¬ (SymbolsBind r (λ (x : Script). play_without_count r x))
  without_count-refused one other sep are short s x told =
      let play : Script → Play S Symbol F EF O = λ (y : Script). play_without_count r y in
      let run : List (Value F EF) → Run Script F EF S =
      λ values. record { challenger = s; separator = sep; steps = two_lists one other; values = values } in
      let both = run (Scalars (x ∷ x ∷ []) ∷ Scalars [] ∷ []) in
      let each = run (Scalars (x ∷ []) ∷ Scalars (x ∷ []) ∷ []) in
      let both_finished : IsFinished r play both =
      record { in_pattern = ap (take 2) (sym are); seed_fits = short; finishes = (lit≤ tt, tt, refl, (lit≤ tt, tt, refl, tt)) } in
      let each_finished : IsFinished r play each =
      record { in_pattern = ap (take 2) (sym are); seed_fits = short; finishes = (lit≤ tt, tt, refl, (lit≤ tt, tt, refl, tt)) } in
      let same : FeedTheSame r play both each =
      record {
        finished = (both_finished, each_finished);
        held = ((tt, (tt, tt)), (tt, (tt, tt)));
        as_far = inl (sym are, sym are);
        same = simp (append_assoc, append-nil);
      } in
      elim (told both each same).steps [
        | inl steps ↦ let values = steps.values in absurd (cc)
        | inr collide ↦ collide.differ refl
      ]

-- ---- in the small world

-- a program can hold a step of its numbers
is_program_step : (for_what : Kind) (bytes : List ℕ) (n : Length) → all_bytes bytes ≡ true → length bytes < 2 ^ 64 →
    FitsLength n → IsProgramStep (algebra_step for_what bytes coding.algebra n)
is_program_step for_what bytes n are short fits =
    record {
      fits = record {
        label = short;
        carried = fits;
        tag = (lit< tt, (lit< tt, refl, are_bytes (replicate 32 0) refl));
      };
      label = are_bytes bytes are;
      type_name = are_bytes (codes "number") refl;
    }

abbrev lists_pattern : PatternSteps
lists_pattern =
    pattern_of_two (algebra_step kind.Message (codes "a") coding.algebra (lengths.Bounded 2))
    (algebra_step kind.Message (codes "b") coding.algebra (lengths.Bounded 2)) refl refl
    (is_program_step kind.Message (codes "a") (lengths.Bounded 2) refl (lit< tt) (lit< tt))
    (is_program_step kind.Message (codes "b") (lengths.Bounded 2) refl (lit< tt) (lit< tt))

world-without_count-refused : ¬ (SymbolsBind rules (λ (x : Step). play_without_count rules x))
world-without_count-refused =
    without_count-refused Nil Nil Nil Nil Nil Nil ℕ ℕ ℕ rules (label (codes "a")) (label (codes "b"))
    (separator lists_pattern) refl (λ long. long) 0 0

-- ---- hints that are observed

-- a hint of one byte, and a challenge
abbrev hint_and_draw : List Step
hint_and_draw = step.Hint (label (codes "a")) 1 ∷ step.ChallengeScalar (label (codes "b")) ∷ []

is_hint : IsProgramStep (bytes_step kind.Hint (codes "a") (lengths.Fixed 1))
is_hint =
    record {
      fits = record { label = lit< tt; carried = lit< tt; tag = tt };
      label = are_bytes (codes "a") refl;
      type_name = are_bytes (codes "u8") refl;
    }

abbrev hint_pattern : PatternSteps
hint_pattern =
    pattern_of_two (bytes_step kind.Hint (codes "a") (lengths.Fixed 1))
    (algebra_step kind.Challenge (codes "b") coding.algebra lengths.Scalar) refl refl is_hint
    (is_program_step kind.Challenge (codes "b") lengths.Scalar refl (lit< tt) tt)

abbrev hinted : ℕ → Run Step ℕ ℕ ℕ
hinted byte = record {
  challenger = 0;
  separator = separator hint_pattern;
  steps = hint_and_draw;
  values = Bytes (byte ∷ []) ∷ Nothing ∷ [];
}

hinted-finished : (byte : ℕ) → IsFinished rules (λ (x : Step). play_with_hints rules x) (hinted byte)
hinted-finished byte =
    record { in_pattern = refl; seed_fits = λ long. long; finishes = (refl, λ long. long, refl, (tt, tt, refl, tt)) }

-- the bytes 0 and 1: each is what is drawn after it
with_hints-refused : ¬ (HintsDoNotInfluence rules (λ (x : Step). play_with_hints rules x))
with_hints-refused told =
    let same = told (hinted 0) (hinted 1).values (hinted-finished 0) (hinted-finished 1) (tt, (refl, tt)) in
    let draws : ◌≡◌ {A = List (Challenge ℕ ℕ)} (OfScalars (0 ∷ []) ∷ []) (OfScalars (1 ∷ []) ∷ []) = same.draws in
    let bytes : ◌≡◌ {A = ℕ} 0 1 = cc in absurd (omega (arith, bytes))
