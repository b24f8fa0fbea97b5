-- Accepted proofs whose runs feed the same: what is said of them, with one thing wrong, is false.
use Rattle.std.proofs.Common.{◌≡◌, ℕ, ◌+◌, ◌*◌, ◌%◌, ◌≤◌, List, [], ◌∷◌, ◌++◌, length, take, codes, inl, inr, true}
use Rattle.std.{proofs.Common.{refl, sym, ap, ◌∙◌, arith, lit<, lit≤}, proofs.lemmas.List.append-nil}
use Rattle.std.specs.List.{AllByRecursion}
use Rattle.p3_challenger_core.specs.Reading.{AreBytes}
use Rattle.p3_fs_core.specs.{StepFits.IsProgramStep}
use Rattle.p3_patterns.specs.PatternSteps.{PatternSteps, steps_of}
use Rattle.p3_domain_separator.specs.{Seed.identifier, Separators.HeldSeparator}
use Rattle.p3_driver_core.specs.Transcripts.{bytes_step}
use Rattle.p3_runs.specs.{Fronts.{Run, IsFinished, symbols, last}, Plays.{Play, HasLength, when_some}, Rules.Rules}
use Rattle.p3_runs.specs.{Plays.holds_some, Absorbed.Absorbed, Values.{Value, Challenge, bytes_in}}
use Rattle.p3_runs.specs.{Provings.IsProved, Verdicts.{Accepts, with_steps}}
use Rattle.p3_binding.specs.{Binding.{AreBound, IsHeld}, Hints.ReceivedButHints}
use Rattle.p3_script.specs.Scripts.{play_of}
use Rattle.p3_fs_core.specs.declared.step.Kind.TheVariants as kind
use Rattle.p3_fs_core.specs.declared.step.Length.TheVariants as lengths
use Rattle.p3_runs.specs.Absorbed as absorbed
use Rattle.p3_runs.specs.Runs as runs
use Rattle.p3_runs.specs.Values as value
use Rattle.p3_script.specs.declared.steps.Step.TheVariants as step
use Rattle.wrong_definitions.proofs.{Bytes.{all_bytes, are_bytes}, Patterns.pattern_of_one}
use Rattle.wrong_definitions.proofs.World as world

abbrev Values : Type 0
Values = List (Value ℕ ℕ)

abbrev WorldRules : Type 1
WorldRules = Rules ℕ ℕ ℕ ℕ ℕ ℕ (Unit {0})

abbrev Separator : Type 0
Separator = HeldSeparator

abbrev Script : Type 0
Script = Run world.Step ℕ ℕ ℕ

abbrev play : WorldRules → world.Step → Play ℕ ℕ ℕ ℕ ℕ
play rules x = play_of rules x

-- what a verifier answers of an accepted proof
record Answer : Type 0 where
  received : Values
  drawn : List (Challenge ℕ ℕ)
  end : ℕ

abbrev IsAnswer : WorldRules → Script → List ℕ → List ℕ → Answer → Type 0
IsAnswer rules s bytes carried v = Accepts rules (play rules) s bytes carried v.received v.drawn v.end

abbrev run_of : Script → Values → Script
run_of s values = with_steps s s.steps values

-- a program can hold a script and a proof of it
record HoldsProof (rules : WorldRules) (steps : List world.Step) (bytes : List ℕ) : Type 0 where
  steps_are : AllByRecursion (λ x. IsHeld rules.IsOwn ((play rules x).absorbed value.Nothing)) steps
  bytes_are : AreBytes bytes

-- Two accepted proofs of one script whose runs feed the same: what was received is the same in this sense, and the
-- challenges and final challengers are the same.
abbrev EqualSymbolsHaveEqualValues : WorldRules → (List world.Step → Values → Values → Type 0) → Type 0
EqualSymbolsHaveEqualValues rules AreSame = (s : Script) (bytes others carried brought : List ℕ) (v w : Answer)
    (a : IsAnswer rules s bytes carried v) (b : IsAnswer rules s others brought w) → HoldsProof rules s.steps bytes →
    HoldsProof rules s.steps others →
    symbols rules (play rules) (run_of s a.values) ≡ symbols rules (play rules) (run_of s b.values) →
    AreSame s.steps v.received w.received × (v.drawn ≡ w.drawn) × (v.end ≡ w.end)

-- the first steps of a run
abbrev front_of : ℕ → Script → Script
front_of n run = record run { steps = take n run.steps; values = take n run.values }

-- Fronts of two accepted proofs, of so many steps and of so many, that feed the same in this sense bind what came
-- before.
abbrev VerifiedFrontsBind : (ℕ → ℕ → Script → Script → Type 0) → Type 0
VerifiedFrontsBind FeedTheSame = (s t : Script) (bytes others carried brought : List ℕ) (v w : Answer)
    (a : IsAnswer world.rules s bytes carried v) (b : IsAnswer world.rules t others brought w) →
    HoldsProof world.rules s.steps bytes → HoldsProof world.rules t.steps others → (n m : ℕ) →
    FeedTheSame n m (run_of s a.values) (run_of t b.values) →
    AreBound world.rules (play world.rules) (front_of n (run_of s a.values)) (front_of m (run_of t b.values))

-- what a prover answers of a script
record Made : Type 0 where
  bytes : List ℕ
  witnesses : List ℕ
  carried : List ℕ
  drawn : List (Challenge ℕ ℕ)
  end : ℕ

record IsMade (s : Script) (sent : Values) (v : Made) : Type 0 where
  is_proved : IsProved world.rules (play world.rules) s sent v.bytes v.witnesses v.carried v.drawn v.end
  to_carry : runs.carried_count (play world.rules) s.steps ≡ length v.carried

-- and so do those of two proofs that provers made
abbrev ProvedFrontsBind : (ℕ → ℕ → Script → Script → Type 0) → Type 0
ProvedFrontsBind FeedTheSame = (s t : Script) (sent handed : Values) (v w : Made) (a : IsMade s sent v)
    (b : IsMade t handed w) → HoldsProof world.rules s.steps v.bytes → HoldsProof world.rules t.steps w.bytes →
    (n m : ℕ) →
    FeedTheSame n m (run_of s a.is_proved.values) (run_of t b.is_proved.values) →
    AreBound world.rules (play world.rules)
    (front_of n (run_of s a.is_proved.values)) (front_of m (run_of t b.is_proved.values))

-- ---- scripts of one step that sends bytes

-- the bytes of a value, where it is bytes
abbrev bytes_of : Value ℕ ℕ → List ℕ
bytes_of v = when_some [] (λ bytes. bytes) (bytes_in v)

are_its_bytes : (n : ℕ) (v : Value ℕ ℕ) → holds_some (HasLength n) (bytes_in v) → v ≡ value.Bytes (bytes_of v)
are_its_bytes n value.Nothing fits = absurd fits
are_its_bytes n (value.Bytes bytes) fits = refl
are_its_bytes n (value.Scalar x) fits = absurd fits
are_its_bytes n (value.Scalars xs) fits = absurd fits
are_its_bytes n (value.Extension x) fits = absurd fits
are_its_bytes n (value.Witness x) fits = absurd fits

module _ (rules : WorldRules) (x : world.Step) (n : ℕ)
    (fits : (v : Value ℕ ℕ) → (play rules x).Fits v → holds_some (HasLength n) (bytes_in v))
    (wire : (v : Value ℕ ℕ) → (play rules x).wire v ≡ bytes_of v) where
  -- the proof tells the value
  only_values : (bytes : List ℕ) (values : Values) (s : ℕ) → runs.Finishes (play rules) (x ∷ []) values s →
      bytes ≡ runs.wires (play rules) (x ∷ []) values → values ≡ value.Bytes bytes ∷ []
  only_values bytes [] s finishes read = absurd finishes
  only_values bytes (v ∷ []) s finishes read =
      let ends : (play rules x).wire v ++ [] ≡ (play rules x).wire v = simp (append-nil) in
      let sent : bytes ≡ bytes_of v = read ∙ ends ∙ wire v in
      let found : v ≡ value.Bytes bytes =
      are_its_bytes n v (fits v finishes.0) ∙ ap (λ (b : List ℕ). value.Bytes b) (sym sent) in
      ap (λ (w : Value ℕ ℕ). w ∷ []) found
  only_values bytes (v ∷ w ∷ more) s finishes read = absurd finishes.3

-- ---- one hint

abbrev hint : world.Step
hint = step.Hint (world.label (codes "a")) 1

is_hint : IsProgramStep (bytes_step kind.Hint (codes "a") (lengths.Fixed 1))
is_hint =
    record {
      fits = record { label = lit< tt; carried = lit< tt; tag = tt };
      label = are_bytes (codes "a") refl;
      type_name = are_bytes (codes "u8") refl;
    }

abbrev hint_pattern : PatternSteps
hint_pattern = pattern_of_one (bytes_step kind.Hint (codes "a") (lengths.Fixed 1)) refl is_hint

abbrev hint_script : Separator → Script
hint_script separator = record { challenger = 0; separator = separator; steps = hint ∷ []; values = [] }

abbrev hint_answer : Separator → ℕ → Answer
hint_answer separator byte =
    let values : Values = value.Bytes (byte ∷ []) ∷ [] in
    record {
      received = values;
      drawn = [];
      end = last world.rules (play world.rules) (run_of (hint_script separator) values);
    }

-- the run of any byte is finished, and its proof is accepted
hint_finished : (separator : Separator) →
    steps_of separator.pattern ≡ bytes_step kind.Hint (codes "a") (lengths.Fixed 1) ∷ [] → (byte : ℕ) →
    IsFinished world.rules (play world.rules) (run_of (hint_script separator) (value.Bytes (byte ∷ []) ∷ []))
hint_finished separator are byte =
    record { in_pattern = ap (take 1) (sym are); seed_fits = λ long. long; finishes = (refl, tt, refl, tt) }

hint_accepted : (separator : Separator) →
    steps_of separator.pattern ≡ bytes_step kind.Hint (codes "a") (lengths.Fixed 1) ∷ [] → (byte : ℕ) →
    IsAnswer world.rules (hint_script separator) (byte ∷ []) [] (hint_answer separator byte)
hint_accepted separator are byte =
    record {
      values = value.Bytes (byte ∷ []) ∷ [];
      proof = record {
        finished = hint_finished separator are byte;
        whole = sym are;
        wire_is = refl;
        carries = refl;
      };
      outcome = record { received_is = refl; drawn_is = refl; end_is = refl };
      only = λ others proof. only_values world.rules hint 1 (λ v fits. fits) (λ v. refl) (byte ∷ []) others
          _ proof.finished.finishes proof.wire_is;
    }

hint_held : (byte : ℕ) → all_bytes (byte ∷ []) ≡ true → HoldsProof world.rules (hint ∷ []) (byte ∷ [])
hint_held byte is = record { steps_are = (tt, tt); bytes_are = are_bytes (byte ∷ []) is }

-- a prover that is handed the byte makes that proof
abbrev hint_made : Separator → ℕ → Made
hint_made separator byte = record {
  bytes = byte ∷ [];
  witnesses = [];
  carried = [];
  drawn = [];
  end = (hint_answer separator byte).end;
}

hint_proved : (separator : Separator) →
    steps_of separator.pattern ≡ bytes_step kind.Hint (codes "a") (lengths.Fixed 1) ∷ [] → (byte : ℕ) →
    IsMade (hint_script separator) (value.Bytes (byte ∷ []) ∷ []) (hint_made separator byte)
hint_proved separator are byte =
    record {
      is_proved = record {
        values = value.Bytes (byte ∷ []) ∷ [];
        outcome = record {
          is_run = record {
            finished = hint_finished separator are byte;
            whole = sym are;
            handed = refl;
            least = (tt, tt);
          };
          narg_is = refl;
          witnesses_is = refl;
          carried_is = refl;
          drawn_is = refl;
          end_is = refl;
        };
      };
      to_carry = refl;
    }

-- ---- hints compared with what was received

-- what was received is the same, hints too
abbrev AreSameWithHints : List world.Step → Values → Values → Type 0
AreSameWithHints steps received again = received ≡ again

-- 0 and 1 are accepted alike
with_hints-refused : ¬ (EqualSymbolsHaveEqualValues world.rules AreSameWithHints)
unfolding hint_accepted
with_hints-refused told =
    let separator : Separator = world.separator hint_pattern in
    let same = told (hint_script separator) (0 ∷ []) (1 ∷ []) [] [] (hint_answer separator 0) (hint_answer separator 1)
    (hint_accepted separator refl 0) (hint_accepted separator refl 1) (hint_held 0 refl)
    (hint_held 1 refl) refl in
    let received : ◌≡◌ {A = Values} (value.Bytes (0 ∷ []) ∷ []) (value.Bytes (1 ∷ []) ∷ []) = same.0 in
    let bytes : ◌≡◌ {A = ℕ} 0 1 = cc in absurd (omega (arith, bytes))

-- ---- bytes packed two to an element, and reduced

abbrev packed : List ℕ → List ℕ
packed [] = []
packed (x ∷ []) = x ∷ []
packed (x ∷ y ∷ rest) = (256 * x + y) % 257 ∷ packed rest

abbrev reducing : WorldRules
reducing = record world.rules { alphabet = record (world.rules.alphabet) { items = packed } }

abbrev two_bytes : world.Step
two_bytes = step.Bytes (world.label (codes "a")) 2

are_two_bytes : IsProgramStep (bytes_step kind.Message (codes "a") (lengths.Fixed 2))
are_two_bytes =
    record {
      fits = record { label = lit< tt; carried = lit< tt; tag = tt };
      label = are_bytes (codes "a") refl;
      type_name = are_bytes (codes "u8") refl;
    }

abbrev two_pattern : PatternSteps
two_pattern = pattern_of_one (bytes_step kind.Message (codes "a") (lengths.Fixed 2)) refl are_two_bytes

abbrev two_script : Script
two_script = record { challenger = 0; separator = world.separator two_pattern; steps = two_bytes ∷ []; values = [] }

abbrev two_answer : ℕ → Answer
two_answer byte =
    let values : Values = value.Bytes (byte ∷ byte ∷ []) ∷ [] in
    record { received = values; drawn = []; end = last reducing (play reducing) (run_of two_script values) }

two_accepted : (byte : ℕ) → IsAnswer reducing two_script (byte ∷ byte ∷ []) [] (two_answer byte)
two_accepted byte =
    record {
      values = value.Bytes (byte ∷ byte ∷ []) ∷ [];
      proof = record {
        finished = record {
          in_pattern = refl;
          seed_fits = λ long. long;
          finishes = (refl, (λ long. long), refl, tt);
        };
        whole = refl;
        wire_is = refl;
        carries = refl;
      };
      outcome = record { received_is = refl; drawn_is = refl; end_is = refl };
      only = λ others proof. only_values reducing two_bytes 2 (λ v fits. fits) (λ v. refl) (byte ∷ byte ∷ []) others
          _ proof.finished.finishes proof.wire_is;
    }

two_held : (byte : ℕ) → all_bytes (byte ∷ byte ∷ []) ≡ true →
    HoldsProof reducing (two_bytes ∷ []) (byte ∷ byte ∷ [])
two_held byte are = record { steps_are = (tt, tt); bytes_are = are_bytes (byte ∷ byte ∷ []) are }

-- 1, 1 comes to 257, which is observed as 0, 0 are
reducing-refused : ¬ (EqualSymbolsHaveEqualValues reducing (ReceivedButHints (play reducing)))
unfolding two_accepted
reducing-refused told =
    let same = told two_script (0 ∷ 0 ∷ []) (1 ∷ 1 ∷ []) [] [] (two_answer 0) (two_answer 1) (two_accepted 0)
    (two_accepted 1) (two_held 0 refl) (two_held 1 refl) refl in
    let received : ◌≡◌ {A = Value ℕ ℕ} (value.Bytes (0 ∷ 0 ∷ [])) (value.Bytes (1 ∷ 1 ∷ [])) = same.0.0 in
    let bytes : ◌≡◌ {A = ℕ} 0 1 = cc in absurd (omega (arith, bytes))

-- ---- fronts of which the seeds are not compared

-- the same but that the seeds' symbols are left out
abbrev FeedTheSameAfterSeeds : ℕ → ℕ → Script → Script → Type 0
FeedTheSameAfterSeeds n m x y = (n ≡ m) × (n ≤ length x.steps) × (m ≤ length y.steps) ×
    (runs.symbols (play world.rules) (take n x.steps) (take n x.values)
    ≡ runs.symbols (play world.rules) (take m y.steps) (take m y.values))

-- the separator of another protocol
abbrev of_another : Separator
of_another = record (world.separator hint_pattern) {
  protocol_id = identifier 1 (codes "q");
  is_identifier = record {
    version = 1;
    name = codes "q";
    encoded = refl;
    version_fits = lit< tt;
    named = lit≤ tt;
    short = lit≤ tt;
    bytes = are_bytes (codes "q") refl;
  };
}

-- a proof of the protocol "p" and one of "q"
after_seeds-refused : ¬ (VerifiedFrontsBind FeedTheSameAfterSeeds)
unfolding hint_accepted
after_seeds-refused told =
    let separator : Separator = world.separator hint_pattern in
    let bound = told (hint_script separator) (hint_script of_another) (0 ∷ []) (0 ∷ []) [] [] (hint_answer separator 0)
    (hint_answer of_another 0) (hint_accepted separator refl 0) (hint_accepted of_another refl 0)
    (hint_held 0 refl) (hint_held 0 refl) 1 1 (refl, lit≤ tt, lit≤ tt, refl) in
    let names : ◌≡◌ {A = List ℕ} (112 ∷ []) (113 ∷ []) = bound.protocol.name in
    let first : ◌≡◌ {A = ℕ} 112 113 = cc in absurd (omega (arith, first))

-- ---- fronts of which the steps are not counted

-- the same symbols, of any numbers of steps
abbrev FeedTheSameUncounted : ℕ → ℕ → Script → Script → Type 0
FeedTheSameUncounted n m x y = (n ≤ length x.steps) × (m ≤ length y.steps) × (symbols world.rules (play world.rules)
    (front_of n x) ≡ symbols world.rules (play world.rules) (front_of m y))

-- a front of no step, and one of the hint
uncounted-refused : ¬ (VerifiedFrontsBind FeedTheSameUncounted)
unfolding hint_accepted
uncounted-refused told =
    let separator : Separator = world.separator hint_pattern in
    let answer : Answer = hint_answer separator 0 in
    let accepted : IsAnswer world.rules (hint_script separator) (0 ∷ []) [] answer = hint_accepted separator refl 0 in
    let bound = told (hint_script separator) (hint_script separator) (0 ∷ []) (0 ∷ []) [] [] answer answer accepted
    accepted (hint_held 0 refl) (hint_held 0 refl) 0 1 (lit≤ tt, lit≤ tt, refl) in
    elim bound.steps [
      | inl steps ↦
          let values : ◌≡◌ {A = List (Absorbed ℕ ℕ)} [] (absorbed.Nothing ∷ []) = steps.values in
          let counts : ◌≡◌ {A = ℕ} 0 1 = ap length values in absurd (omega (arith, counts))
      | inr collide ↦ collide.differ refl
    ]

-- nor is it so of provers
proved_uncounted-refused : ¬ (ProvedFrontsBind FeedTheSameUncounted)
unfolding hint_proved
proved_uncounted-refused told =
    let separator : Separator = world.separator hint_pattern in
    let sent : Values = value.Bytes (0 ∷ []) ∷ [] in
    let made : Made = hint_made separator 0 in
    let proved : IsMade (hint_script separator) sent made = hint_proved separator refl 0 in
    let bound = told (hint_script separator) (hint_script separator) sent sent made made proved proved
    (hint_held 0 refl) (hint_held 0 refl) 0 1 (lit≤ tt, lit≤ tt, refl) in
    elim bound.steps [
      | inl steps ↦
          let values : ◌≡◌ {A = List (Absorbed ℕ ℕ)} [] (absorbed.Nothing ∷ []) = steps.values in
          let counts : ◌≡◌ {A = ℕ} 0 1 = ap length values in absurd (omega (arith, counts))
      | inr collide ↦ collide.differ refl
    ]
