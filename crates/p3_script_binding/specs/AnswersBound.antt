-- Prefixes of runs that feed the same symbols, and what equal symbols imply for the results of a verifier or a
-- prover.
use Rattle.std.specs.{Prelude.{◌≡◌, ℕ, List, ◌≤◌, length, take}, List.AllByRecursion}
use Rattle.p3_binding.specs.{Binding.{AreBound, IsHeld}, Hints.ReceivedButHints}
use Rattle.p3_runs.specs.{Fronts.{Run, symbols}, Rules.Rules, Values.{Value, Nothing}, Verdicts.with_steps, Plays.Play}
use Rattle.p3_script.specs.Scripts.{play_of, values_received, challenges_of}
use Rattle.p3_script_prover.specs.{ProverAnswers.IsProvedScript, declared.proving.Proved.Proved}
use Rattle.p3_script_verifier.specs.{VerifierAnswers.IsVerifiedScript, declared.verifying.Verified.Verified}
use Rattle.p3_challenger_core.specs.Reading.{AreBytes}
use Rattle.p3_script.specs.declared.steps.Step as script

-- the prefix of the first n steps
abbrev pub front_of : {X F EF S : Type 0} → ℕ → Run X F EF S → Run X F EF S
front_of n run = record run { steps = take n run.steps; values = take n run.values }

module _ {X S Symbol I F EF O Ac : Type 0} (rules : Rules S Symbol I F EF O Ac) (play : X → Play S Symbol F EF O) where
  -- a program can hold these steps: each opaque value is one of its type
  abbrev pub AreOwn : List X → Type 0
  AreOwn steps = AllByRecursion (λ x. IsHeld rules.IsOwn ((play x).absorbed Nothing)) steps

  -- a program can hold a script and a proof of it
  pub record HoldsProof (steps : List X) (bytes : List ℕ) : Type 0 where
    pub steps_are : AreOwn steps
    pub bytes_are : AreBytes bytes

  -- both runs have at least n steps, and their first n steps feed the same symbols
  pub record FeedTheSameUpTo (n : ℕ) (x y : Run X F EF S) : Type 0 where
    pub within : (n ≤ length x.steps) × (n ≤ length y.steps)
    pub same : symbols rules play (front_of n x) ≡ symbols rules play (front_of n y)

module _ {F EF O Ac : Type 0} (Su U C K D G It S Symbol : Type 0) (rules : Rules S Symbol It F EF O Ac) (state : C → S) where
  -- a script under a separator from a state, with the results of a verifier and of a prover for it
  abbrev Script : Type 0
  Script = Run (script.Step Su F EF U O C K Ac D G It S Symbol) F EF S

  abbrev Accepted : Type 0
  Accepted = Verified Su F EF U O C K Ac D G It S Symbol

  abbrev Made : Type 0
  Made = Proved Su F EF U O C K Ac D G It S Symbol

  -- the run of these values at the script's steps
  abbrev run_of : Script → List (Value F EF) → Script
  run_of s values = with_steps s s.steps values

  -- What was received is the same except for hints and witnesses of 0 bits. The challenges are the same, and so are
  -- the final challengers.
  pub record AgreeButHints (s : Script) (v w : Accepted) : Type 0 where
    pub received : ReceivedButHints (play_of rules) s.steps (values_received v.received.items)
        (values_received w.received.items)
    pub challenges : challenges_of v.challenges.items ≡ challenges_of w.challenges.items
    pub challengers : state v.challenger ≡ state w.challenger

  -- two accepted proofs of one script whose runs feed the same symbols agree
  abbrev pub EqualSymbolsHaveEqualValues : Type 0
  EqualSymbolsHaveEqualValues = (s : Script) (bytes others : List ℕ) (carried brought : List F) (v w : Accepted)
      (a : IsVerifiedScript rules s bytes carried state v) (b : IsVerifiedScript rules s others brought state w) →
      HoldsProof rules (play_of rules) s.steps bytes → HoldsProof rules (play_of rules) s.steps others → symbols rules
      (play_of rules) (run_of s a.values) ≡ symbols rules (play_of rules) (run_of s b.values) → AgreeButHints s v w

  -- the first steps of two accepted proofs that feed the same symbols bind everything before them
  abbrev pub VerifiedFrontsBind : Type 0
  VerifiedFrontsBind = (s t : Script) (bytes others : List ℕ) (carried brought : List F) (v w : Accepted)
      (a : IsVerifiedScript rules s bytes carried state v) (b : IsVerifiedScript rules t others brought state w) →
      HoldsProof rules (play_of rules) s.steps bytes → HoldsProof rules (play_of rules) t.steps others → (n : ℕ) →
      FeedTheSameUpTo rules (play_of rules) n (run_of s a.values) (run_of t b.values) →
      AreBound rules (play_of rules) (front_of n (run_of s a.values)) (front_of n (run_of t b.values))

  -- the first steps of two provers' proofs that feed the same symbols bind everything before them
  abbrev pub ProvedFrontsBind : Type 0
  ProvedFrontsBind = (s t : Script) (sent handed : List (Value F EF)) (v w : Made)
      (a : IsProvedScript rules s sent state v) (b : IsProvedScript rules t handed state w) →
      HoldsProof rules (play_of rules) s.steps v.narg.items → HoldsProof rules (play_of rules) t.steps w.narg.items →
      (n : ℕ) → FeedTheSameUpTo rules (play_of rules) n (run_of s a.0.values) (run_of t b.0.values) →
      AreBound rules (play_of rules) (front_of n (run_of s a.0.values)) (front_of n (run_of t b.0.values))
