-- The outcome of a whole script on the verifier's side.
use Rattle.std.specs.Prelude.{◌≡◌, ℕ, List, [], ◌∷◌, ◌++◌, ◌⊎◌, Option, length, false}
use Rattle.p3_fs_core.specs.declared.error.TranscriptError.{TranscriptError}
use Rattle.p3_domain_separator.specs.{Separators.HeldSeparator, SeparatorSeed.held_of}
use Rattle.p3_domain_separator.specs.declared.domain_separator.DomainSeparator.{DomainSeparator}
use Rattle.p3_patterns.specs.Playing.{Playing}
use Rattle.p3_driver_core.specs.{Driving.{Driving, RefusesStart}, Verifying.RefusesEnd}
use Rattle.p3_symmetric.specs.declared.digest_hasher.DigestHasher.{Ghosts}
use Rattle.p3_runs.specs.{Fronts.{Run, IsFinished, IsWhole, seed, wire, challenges, last}, Plays.Play, Rules.Rules}
use Rattle.p3_runs.specs.{Sides.Sides, Stepping.{OrHalts, IsCarriedTo}}
use Rattle.p3_runs.specs.Values.{Value, Challenge, one_witness, all_witnesses}
use Rattle.p3_runs.specs.Runs as runs

-- the run with these values at these steps, under the same separator and from the same challenger
abbrev pub with_steps : {X F EF S : Type 0} → Run X F EF S → List X → List (Value F EF) → Run X F EF S
with_steps run steps values = record run { steps = steps; values = values }

-- a script without values, under a separator and from a state of a challenger
abbrev pub script_under : {X F EF S : Type 0} → S → HeldSeparator → List X → Run X F EF S
script_under challenger separator steps =
    record { challenger = challenger; separator = separator; steps = steps; values = [] }

-- the same under a separator of the program
abbrev pub script_of : {X F EF S U D : Type 0} {hasher : Ghosts D} → S → DomainSeparator U D hasher → List X →
    Run X F EF S
script_of challenger separator steps = script_under challenger (held_of separator) steps

-- the progress in the pattern after a prefix of the script
abbrev pub playing_after : {X F EF S : Type 0} → Run X F EF S → Playing
playing_after front = record { pattern = front.separator.pattern; position = length front.steps; finished = false }

module _ {X S Symbol I F EF O Ac : Type 0} (rules : Rules S Symbol I F EF O Ac) (play : X → Play S Symbol F EF O) where
  -- A proof of the run. The run is finished and plays the whole pattern, its wire is these bytes with nothing after
  -- them, and its carried witnesses are these.
  pub record IsProof (run : Run X F EF S) (bytes : List ℕ) (carried : List F) : Type 0 where
    pub finished : IsFinished rules play run
    pub whole : IsWhole rules play run
    pub wire_is : bytes ≡ wire rules play run
    pub carries : all_witnesses carried ≡ runs.carried play run.steps run.values

  -- the run's values in the proof, its challenges and its final challenger
  pub record IsOutcome (run : Run X F EF S) (received : List (Value F EF)) (drawn : List (Challenge F EF)) (end : S) :
      Type 0 where
    pub received_is : received ≡ runs.in_proof play run.steps run.values
    pub drawn_is : drawn ≡ challenges rules play run
    pub end_is : end ≡ last rules play run

  -- The proof is accepted: exactly one list of values has a run with it, and the result is that run's.
  pub record Accepts (script : Run X F EF S) (bytes : List ℕ) (carried : List F) (received : List (Value F EF))
      (drawn : List (Challenge F EF)) (end : S) : Type 0 where
    pub values : List (Value F EF)
    pub proof : IsProof (with_steps script script.steps values) bytes carried
    pub outcome : IsOutcome (with_steps script script.steps values) received drawn end
    pub only : (others : List (Value F EF)) → IsProof (with_steps script script.steps others) bytes carried →
        others ≡ values

  -- no list of values has such a run
  abbrev pub HasNoProof : Run X F EF S → List ℕ → List F → Type 0
  HasNoProof script bytes carried =
      (values : List (Value F EF)) → IsProof (with_steps script script.steps values) bytes carried → ⊥

  -- a driver after a prefix of the script, with these bytes
  abbrev pub driving_after : Run X F EF S → List ℕ → Driving S
  driving_after front bytes =
      record { transcript = record { challenger = last rules play front; playing = playing_after front }; bytes = bytes }

  -- The end is refused: all steps were played, and steps of the pattern are left, or bytes.
  pub record RefusesAtEnd (script : Run X F EF S) (bytes : List ℕ) (carried : List F) (position : ℕ)
      (e : TranscriptError) : Type 0 where
    pub place : position ≡ length script.steps
    pub values : List (Value F EF)
    pub finished : IsFinished rules play (with_steps script script.steps values)
    pub left : List ℕ
    pub read : bytes ≡ runs.wires play script.steps values ++ left
    pub carries : all_witnesses carried ≡ runs.carried play script.steps values
    pub refuses : RefusesEnd (driving_after (with_steps script script.steps values) left) e

-- ---- where and why a verifier refuses a proof, by its refusals of each step

module _ {X S Symbol I F EF O Ac : Type 0} (rules : Rules S Symbol I F EF O Ac) (play : X → Play S Symbol F EF O)
    (sides : X → Sides S F EF) where
  -- A step is refused. The proof begins with the bytes of a finished prefix, and the carried witnesses with those of
  -- the prefix. The step follows, and is refused there.
  pub record RefusesAtStep (script : Run X F EF S) (bytes : List ℕ) (carried : List F) (position : ℕ)
      (e : TranscriptError) : Type 0 where
    pub before : List X
    pub step : X
    pub later : List X
    pub steps : script.steps ≡ before ++ (step ∷ later)
    pub place : position ≡ length before
    pub values : List (Value F EF)
    pub finished : IsFinished rules play (with_steps script before values)
    pub left : List ℕ
    pub read : bytes ≡ runs.wires play before values ++ left
    pub witness : Option F
    pub unused : List (Value F EF)
    pub brought : IsCarriedTo (play step).place witness
    pub carries : all_witnesses carried ≡ runs.carried play before values ++ (one_witness witness ++ unused)
    pub after : Driving S
    pub refuses : OrHalts ((sides step).verifier witness)
        (driving_after rules play (with_steps script before values) left) e after

  -- the seed is refused, or a step, or the end
  abbrev pub RefusesProof : Run X F EF S → List ℕ → List F → ℕ → TranscriptError → Type 0
  RefusesProof script bytes carried position e =
      ((position ≡ 0) × RefusesStart (rules.alphabet.is_too_long (length (seed rules play script))) e)
      ⊎ RefusesAtStep script bytes carried position e ⊎ RefusesAtEnd rules play script bytes carried position e
