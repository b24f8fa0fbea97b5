-- The outcome of a whole script on the prover's side.
use Rattle.std.specs.Prelude.{◌≡◌, ℕ, List, [], ◌∷◌, ◌++◌, ◌⊎◌, length}
use Rattle.p3_fs_core.specs.{Errors.pattern_error_of, declared.error.TranscriptError.TranscriptError}
use Rattle.p3_patterns.specs.Playing.{FaultOfPlayEnd, IsPatternError}
use Rattle.p3_driver_core.specs.Driving.{Driving, RefusesStart}
use Rattle.p3_runs.specs.{Runs.if_sent, Fronts.{IsFinished, challenges, AreLeast, IsWhole, seed, wire, last, Run}}
use Rattle.p3_runs.specs.{Plays.{Carried, Place, Play, Sent}, Values.{Challenge, Value, all_witnesses}, Rules.Rules}
use Rattle.p3_runs.specs.{Sides.Sides, Stepping.OrHalts, Verdicts.{driving_after, playing_after, with_steps}}
use Rattle.p3_runs.specs.Runs as runs

-- if the prover is handed a value for a step, the first value is one, and this holds of the others
abbrev pub FirstIs : {V : Type 0} → Place → (V → Type 0) → (List V → Type 0) → List V → Type 0
FirstIs Sent Is Rest [] = ⊥
FirstIs Sent Is Rest (v ∷ values) = Is v × Rest values
FirstIs _ Is Rest values = Rest values

-- there is one value for each step whose place says so, and each value is one of these
abbrev pub AreAmong : {X V : Type 0} → (X → Place) → (X → V → Type 0) → List X → List V → Type 0
AreAmong place Is [] values = values ≡ []
AreAmong place Is (x ∷ steps) values = FirstIs (place x) (Is x) (AreAmong place Is steps) values

module _ {X S Symbol F EF O : Type 0} (play : X → Play S Symbol F EF O) where
  -- There is one value for each step that the prover is handed a value for. Each is of its step's type and, where the
  -- step fixes a length, of that length.
  abbrev pub AreHanded : List X → List (Value F EF) → Type 0
  AreHanded steps values = AreAmong (λ x. (play x).place) (λ x. (play x).IsHanded) steps values

module _ {X S Symbol I F EF O Ac : Type 0} (rules : Rules S Symbol I F EF O Ac) (play : X → Play S Symbol F EF O) where
  -- The run of a prover that is handed these values. It is finished and plays the whole pattern, its steps have these
  -- values, and each witness is the least one that passes.
  pub record IsProverRun (run : Run X F EF S) (sent : List (Value F EF)) : Type 0 where
    pub finished : IsFinished rules play run
    pub whole : IsWhole rules play run
    pub handed : sent ≡ runs.handed play run.steps run.values
    pub least : AreLeast rules play run

  -- The end is refused: all steps were played, and steps of the pattern are left.
  pub record RefusesToProveEnd (script : Run X F EF S) (sent : List (Value F EF)) (position : ℕ)
      (e : TranscriptError) : Type 0 where
    pub place : position ≡ length script.steps
    pub values : List (Value F EF)
    pub finished : IsFinished rules play (with_steps script script.steps values)
    pub least : AreLeast rules play (with_steps script script.steps values)
    pub handed : sent ≡ runs.handed play script.steps values
    pub refuses : IsPatternError
        (λ m. FaultOfPlayEnd (playing_after (with_steps script script.steps values)) (pattern_error_of m)) e

-- ---- where and why a prover refuses, by its refusals of each step

module _ {X S Symbol I F EF O Ac : Type 0} (rules : Rules S Symbol I F EF O Ac) (play : X → Play S Symbol F EF O)
    (sides : X → Sides S F EF) where
  -- A step is refused. It comes with this value after a finished prefix, each of whose witnesses is the least.
  pub record RefusesToProveStep (script : Run X F EF S) (sent : List (Value F EF)) (position : ℕ)
      (e : TranscriptError) : Type 0 where
    pub before : List X
    pub step : X
    pub later : List X
    pub steps : script.steps ≡ before ++ (step ∷ later)
    pub place : position ≡ length before
    pub values : List (Value F EF)
    pub finished : IsFinished rules play (with_steps script before values)
    pub least : AreLeast rules play (with_steps script before values)
    pub given : Value F EF
    pub unused : List (Value F EF)
    pub is_handed : (play step).IsHanded given
    pub handed : sent ≡ runs.handed play before values ++ (if_sent (play step).place given ++ unused)
    pub after : Driving S
    pub refuses : OrHalts ((sides step).prover given)
        (driving_after rules play (with_steps script before values) (runs.wires play before values)) e after

  -- the seed is refused, or a step, or the end
  abbrev pub RefusesToProve : Run X F EF S → List (Value F EF) → ℕ → TranscriptError → Type 0
  RefusesToProve script sent position e =
      ((position ≡ 0) × RefusesStart (rules.alphabet.is_too_long (length (seed rules play script))) e)
      ⊎ RefusesToProveStep script sent position e ⊎ RefusesToProveEnd rules play script sent position e

-- ---- the results of a prover

-- a witness, if the caller carries it
abbrev pub where_carried : {A : Type 0} → Place → List A → List A
where_carried Carried xs = xs
where_carried _ xs = []

-- The first value is one of these, if the prover is handed a value for the step.
abbrev pub StartsHanded : {V : Type 0} → Place → (V → Type 0) → List V → Type 0
StartsHanded place Is values = FirstIs place Is (λ _. Unit {0}) values

module _ {X S Symbol I F EF O Ac : Type 0} (rules : Rules S Symbol I F EF O Ac) (play : X → Play S Symbol F EF O) where
  -- This is the run of a prover that is handed these values, with these bytes, witnesses, carried witnesses, challenges
  -- and final challenger.
  pub record IsProverOutcome (run : Run X F EF S) (sent : List (Value F EF)) (narg : List ℕ)
      (witnesses carried : List F) (drawn : List (Challenge F EF)) (end : S) : Type 0 where
    pub is_run : IsProverRun rules play run sent
    pub narg_is : narg ≡ wire rules play run
    pub witnesses_is : all_witnesses witnesses ≡ runs.witnesses play run.steps run.values
    pub carried_is : all_witnesses carried ≡ runs.carried play run.steps run.values
    pub drawn_is : drawn ≡ challenges rules play run
    pub end_is : end ≡ last rules play run

  -- The result of a prover for a script with these handed values: they have a run, and the result is that run's.
  pub record IsProved (script : Run X F EF S) (sent : List (Value F EF)) (narg : List ℕ) (witnesses carried : List F)
      (drawn : List (Challenge F EF)) (end : S) : Type 0 where
    pub values : List (Value F EF)
    pub outcome : IsProverOutcome (with_steps script script.steps values) sent narg witnesses carried drawn end
